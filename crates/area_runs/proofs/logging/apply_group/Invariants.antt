use Rattle.std.proofs.Common.{◌≡◌}
use Rattle.area_runs.proofs.logging.apply_group.Given as goal

abbrev pub invariant-loop-entry : goal.invariant-loop-entry
invariant-loop-entry l = l.areas.places ≡ l.initial.areas.places
