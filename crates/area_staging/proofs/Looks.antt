-- Calls that change no area, one after another.
use Rattle.std.proofs.Common.{◌≡◌, ℕ, sym, ◌∙◌, ap}
use Rattle.fp_site.specs.Disk.{Disk, IsLawful}
use Rattle.fp_site.proofs.Runs.{stays_then}
use Rattle.fp_lists.proofs.ContinuedLemmas.{continued_both}
use Rattle.ci_pool.specs.Cells.{cell_at}
use Rattle.ci_pool.specs.Held.{Held, waiting_of, staged_of, pending_at, staged_at}
use Rattle.area_staging.specs.Looking.{LooksAt}

module _ {S : Type 0} (told : S → Type 0) (disk : S → Disk) (faults holds : S → ℕ) (keeps : S → S → Type 0)
    (set size : ℕ) where
  -- one after another
  pub looks_then : ((s : S) → told s → IsLawful (disk s)) → (a b c : S) (p q r : Held)
      → LooksAt told disk faults holds keeps set size a b p q → LooksAt told disk faults holds keeps set size b c q r
      → LooksAt told disk faults holds keeps set size a c p r
  looks_then lawful a b c p q r first second = record {
    continued = continued_both told faults holds keeps a b c first.continued second.continued;
    stays = λ t. stays_then (disk a) (disk b) (disk c) (lawful a t) (lawful b (first.continued.still_told t))
        (first.stays t) (second.stays (first.continued.still_told t));
    cells = second.cells ∙ first.cells;
    sizes = λ n m same was. second.sizes n m same (first.sizes n m same was);
    clean = λ t was. second.clean (first.continued.still_told t) (first.clean t was);
  }

-- of the same data set and size
pub looks_as : {S : Type 0} (told : S → Type 0) (disk : S → Disk) (faults holds : S → ℕ) (keeps : S → S → Type 0)
    (set set2 size size2 : ℕ) (a b : S) (p q : Held) → set ≡ set2 → size ≡ size2
    → LooksAt told disk faults holds keeps set size a b p q → LooksAt told disk faults holds keeps set2 size2 a b p q
looks_as told disk faults holds keeps set set2 size size2 a b p q e e2 looks = record {
  continued = looks.continued;
  stays = looks.stays;
  cells = looks.cells;
  sizes = λ s n same was. looks.sizes s n (λ is. same (is ∙ e) ∙ sym e2) was;
  clean = looks.clean;
}

-- pools with the same cells have the same pending and staged
pub same_pending : (pool after : Held) → after.cells ≡ pool.cells → (s k : ℕ) → pending_at after s k ≡ pending_at pool s k
same_pending pool after same s k = ap (λ cs. waiting_of (cell_at s k cs)) same

pub same_staged : (pool after : Held) → after.cells ≡ pool.cells → (s k : ℕ) → staged_at after s k ≡ staged_at pool s k
same_staged pool after same s k = ap (λ cs. staged_of (cell_at s k cs)) same
