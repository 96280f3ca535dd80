-- What stays while changes are staged.
use Rattle.std.proofs.Common.{◌≡◌, ◌≢◌, ℕ, List, refl, ◌∙◌, ap, subst}
use Rattle.std.specs.Prelude.{Contains}
use Rattle.fp_site.specs.Disk.{Disk, IsLawful}
use Rattle.fp_site.proofs.Runs.{stays_then}
use Rattle.fp_lists.proofs.ContinuedLemmas.{continued_both}
use Rattle.ci_pool.specs.Held.{Held, HasSize, bytes_of, bytes_or, interval_in, newest_in, pending_at, staged_at}
use Rattle.area_staging.specs.Changing.{Shows, Stages}
use Rattle.area_staging.specs.Looking.{LooksAt, looks_none}
use Rattle.area_staging.proofs.Looks.{same_pending, same_staged}

module _ {S : Type 0} (told : S → Type 0) (disk : S → Disk) (faults holds : S → ℕ) (keeps : S → S → Type 0)
    (set size : ℕ) where
  -- a look stages nothing
  pub stages_looked : (a b : S) (p q : Held) → LooksAt told disk faults holds keeps set size a b p q
      → Stages told disk faults holds keeps set size a b p q
  stages_looked a b p q look = record {
    continued = look.continued;
    stays = look.stays;
    pending = λ s k. same_pending p q look.cells s k;
    others = λ s k ne. same_staged p q look.cells s k;
    sizes = look.sizes;
    clean = look.clean;
  }

  -- no call yet
  pub stages_itself : (s : S) (pool : Held) → Stages told disk faults holds keeps set size s s pool pool
  stages_itself s pool = stages_looked s s pool pool (looks_none told disk faults holds keeps set size s pool)

  -- one after another
  pub stages_then : ((s : S) → told s → IsLawful (disk s)) → (a b c : S) (p q r : Held)
      → Stages told disk faults holds keeps set size a b p q → Stages told disk faults holds keeps set size b c q r
      → Stages told disk faults holds keeps set size a c p r
  stages_then lawful a b c p q r first second = record {
    continued = continued_both told faults holds keeps a b c first.continued second.continued;
    stays = λ t. stays_then (disk a) (disk b) (disk c) (lawful a t) (lawful b (first.continued.still_told t))
        (first.stays t) (second.stays (first.continued.still_told t));
    pending = λ s k. second.pending s k ∙ first.pending s k;
    others = λ s k ne. second.others s k ne ∙ first.others s k ne;
    sizes = λ n m same was. second.sizes n m same (first.sizes n m same was);
    clean = λ t was. second.clean (first.continued.still_told t) (first.clean t was);
  }

  -- an interval of this data set is staged behind a look
  pub stages_one : (a b : S) (p q r : Held) → LooksAt told disk faults holds keeps set size a b p q
      → ((s k : ℕ) → pending_at r s k ≡ pending_at q s k) → r.clean ≡ q.clean
      → ((s n : ℕ) → (s ≡ set → n ≡ size) → HasSize s n q → HasSize s n r)
      → ((s k : ℕ) → s ≢ set → staged_at r s k ≡ staged_at q s k)
      → Stages told disk faults holds keeps set size a b p r
  stages_one a b p q r look same list sizes others = record {
    continued = look.continued;
    stays = look.stays;
    pending = λ s k. same s k ∙ same_pending p q look.cells s k;
    others = λ s k ne. others s k ne ∙ same_staged p q look.cells s k;
    sizes = λ s n e was. sizes s n e (look.sizes s n e was);
    clean = λ t was s k bytes c. look.clean t was s k bytes (subst (λ l. Contains l ((s, k), bytes)) list c);
  }

  -- ---- what is shown

  pub newest_stays : (p q : Held) (contents contents2 : ℕ → List ℕ) (s k n : ℕ) → pending_at q s k ≡ pending_at p s k
      → contents2 ≡ contents → newest_in q contents2 s k n ≡ newest_in p contents s k n
  newest_stays p q contents contents2 s k n e f =
      ap (λ w. bytes_or (bytes_of w) (interval_in contents2 s k n)) e
      ∙ ap (λ c. bytes_or (bytes_of (pending_at p s k)) (interval_in c s k n)) f

  -- the same is shown behind it
  pub still_shows : (count : ℕ) (bytes : ℕ → List ℕ) (a b : S) (p q : Held)
      → Stages told disk faults holds keeps set size a b p q → told a
      → Shows (record { set = set; size = size; count = count }) (disk a).contents p bytes
      → Shows (record { set = set; size = size; count = count }) (disk b).contents q bytes
  still_shows count bytes a b p q stages t shown = record {
    told = record {
      clean = stages.clean t shown.told.clean;
      sizes = stages.sizes set size (λ e. refl) shown.told.sizes;
    };
    newest = λ ci below.
        newest_stays p q (disk a).contents (disk b).contents set ci size (stages.pending set ci)
        (stages.stays t).contents
        ∙ shown.newest ci below;
  }
