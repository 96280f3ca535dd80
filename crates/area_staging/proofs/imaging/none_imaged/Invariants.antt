use Rattle.std.proofs.Common.{◌≡◌, ◌≤◌, ◌-◌, ℕ, Bool, List, [], length}
use Rattle.std.specs.Prelude.{slice_get, Some}
use Rattle.area_staging.proofs.imaging.none_imaged.Given as goal

abbrev pub invariant-loop-alloc : goal.invariant-loop-alloc
invariant-loop-alloc l = record {
  none : (n : ℕ) (flags : List Bool) → slice_get l.imaged.items n ≡ Some flags → flags ≡ [];
  count : length l.imaged.items ≤ l.count;
}

abbrev pub decreases-loop-alloc : goal.decreases-loop-alloc
decreases-loop-alloc l = l.count - length l.imaged.items
