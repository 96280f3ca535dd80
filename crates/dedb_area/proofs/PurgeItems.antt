-- The item of a Purge.
use Rattle.std.proofs.Common.{◌≡◌, ◌≤◌, ℕ, Bool, true, false, List, [], ◌∷◌, length, sym, ◌∙◌, ap}
use Rattle.std.specs.Prelude.{◌==◌, ◌&&◌, if◌then◌else◌, Option, Some, None}
use Rattle.std.specs.List.{AllByRecursion}
use Rattle.std.proofs.lemmas.Bool.Decides.{nat_tests}
use Rattle.std.proofs.Common.{arith}
use Rattle.fp_model.specs.ItemTargets.{names_interval}
use Rattle.fp_model.specs.declared.log.Item.{Item}
use Rattle.ci_pool.specs.Held.{Held}
use Rattle.area_redo.specs.Redo.{AreaBytes, names, put, redone_at}
use Rattle.area_staging.specs.declared.extent.Extent.{Extent}
use Rattle.area_staging.specs.Changing.{AreStagedBy, IsFitFor}
use Rattle.area_staging.proofs.Steps.{fit_change}
use Rattle.area_staging.specs.Items.{IsChange, IsItemOf}
use Rattle.area_staging.proofs.ItemLemmas.{names_item, names_one, put_item}
use Rattle.area_staging.specs.Items.{items_in}
use Rattle.dedb_area.specs.Purging.{IsJustStaged, IsPurgeStaged}

pub both : (s k set : ℕ) → (s == set && k == 0) ≡ true → (s ≡ set) × (k ≡ 0)
both s k set e = (grind (arith, nat_tests), grind (arith, nat_tests))

pub made : (set : ℕ) (flag : Bool) (control new : List ℕ) (item : Item) (newest : AreaBytes) → length control ≡ length new
    → IsItemOf flag set 0 control new item → newest set 0 ≡ control → (s k : ℕ) → (s == set && k == 0) ≡ true
    → names_interval s k item ≡ true → redone_at s k (item ∷ []) (newest s k) ≡ new
made set flag control new item newest same is first s k here named =
    let at = both s k set here in
    let there : newest s k ≡ control = ap (λ x. newest x k) at.0 ∙ ap (newest set) at.1 ∙ first in
    ap (λ t. if t then put item (newest s k) else newest s k) named ∙ ap (put item) there
    ∙ put_item flag set 0 control new item same is

by_change : (set : ℕ) (flag : Bool) (control new : List ℕ) (pool : Held) (item : Option Item) (newest : AreaBytes)
    → length control ≡ length new → IsChange flag set 0 control new item → IsJustStaged set new pool item
    → newest set 0 ≡ control → AreStagedBy (items_in item) newest pool
by_change set flag control new pool None newest same change staged is = record {
  named = λ s k e. absurd cc;
  others = λ s k e. staged s k;
}
by_change set flag control new pool (Some item) newest same change staged is =
    let named_by : (s k : ℕ) → names s k (item ∷ []) ≡ (s == set && k == 0) =
    λ s k. names_one s k item ∙ names_item flag set 0 control new item change.1 s k in
    record {
      named = λ s k e.
          let here : (s == set && k == 0) ≡ true = sym (named_by s k) ∙ e in
          let item_here : names_interval s k item ≡ true = sym (names_one s k item) ∙ e in
          let made_here : redone_at s k (item ∷ []) (newest s k) ≡ new =
          made set flag control new item newest same change.1 is s k here item_here in
          staged s k ∙ ap (λ t. if t then Some new else None) here ∙ ap Some (sym made_here);
      others = λ s k e.
          let other : (s == set && k == 0) ≡ false = sym (named_by s k) ∙ e in
          staged s k ∙ ap (λ t. if t then Some new else None) other;
    }

-- just the intervals that its items name are staged, with what these make of the newest bytes
pub staged_by : (n set : ℕ) (flag : Bool) (control : List ℕ) (pool : Held) (item : Option Item) (newest : AreaBytes)
    → IsPurgeStaged n set flag control pool item → newest set 0 ≡ control → AreStagedBy (items_in item) newest pool
staged_by n set flag control pool item newest p is =
    by_change set flag control p.new pool item newest (sym p.purged.ends.same_size) p.change p.staged is

-- it fits
pub control_fits : (flag : Bool) (set : ℕ) (old now new : List ℕ) (item : Item) → now ≡ new → length new ≤ 4096
    → IsChange flag set 0 old now (Some item) → AllByRecursion (IsFitFor set (length new)) (items_in (Some item))
control_fits flag set old now new item same short change =
    let area : Extent = record { set = set; size = length new; count = 0 } in
    ((fit_change flag area 0 old now (Some item) (ap length same) (omega (arith, short)) change).0, tt)
