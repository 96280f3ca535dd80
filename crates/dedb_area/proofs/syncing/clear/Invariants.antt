use Rattle.std.proofs.Common.{◌≡◌, ◌≢◌, ◌<◌, ℕ, true, length}
use Rattle.std.specs.Prelude.{slice_get, Some}
use Rattle.dedb_area.proofs.syncing.clear.Given as goal

abbrev pub invariant-loop-number : goal.invariant-loop-number
invariant-loop-number l = record {
  count : length l.unsynced.items ≡ length l.initial.unsynced.items;
  bound : l.number-end ≡ length l.unsynced.items;
  cleared : (k : ℕ) → k < l.number → slice_get l.unsynced.items k ≢ Some true;
}
