use Rattle.std.proofs.Common.{◌≡◌, ◌<◌, ℕ, Bool, List, [], length}
use Rattle.std.specs.Prelude.{slice_get, Some}
use Rattle.area_staging.proofs.imaging.clear.Given as goal

-- so many have no flags
abbrev pub invariant-loop-number : goal.invariant-loop-number
invariant-loop-number l = record {
  none : (n : ℕ) (flags : List Bool) → n < l.number → slice_get l.imaged.items n ≡ Some flags → flags ≡ [];
  count : length l.imaged.items ≡ length l.initial.imaged.items;
}
