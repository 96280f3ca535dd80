use Rattle.area_runs.specs.Bank.{HasBank}
use Rattle.area_runs.proofs.bench.Bench.changed.Given as goal

abbrev pub invariant-loop-change : goal.invariant-loop-change
invariant-loop-change g l = HasBank l.self.defs l.self.areas.places
