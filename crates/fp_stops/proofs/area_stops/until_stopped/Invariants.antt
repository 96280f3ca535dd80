use Rattle.area_runs.specs.Bank.{HasBank}
use Rattle.fp_stops.proofs.area_stops.until_stopped.Given as goal

abbrev pub invariant-loop-place : goal.invariant-loop-place
invariant-loop-place g l = HasBank l.bench.defs l.bench.areas.places
