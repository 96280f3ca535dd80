use Rattle.std.proofs.Common.{◌≡◌, []}
use Rattle.area_runs.proofs.logging.apply_log.Given as goal

abbrev pub invariant-groups : goal.invariant-groups
invariant-groups l = record {
  places : l.areas.places ≡ l.initial.areas.places;
  unsealed : l.log.unsealed ≡ [];
}
