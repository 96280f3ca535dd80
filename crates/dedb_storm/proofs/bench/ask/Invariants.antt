use Rattle.dedb_storm.specs.Bench.{IsUnderWay}
use Rattle.dedb_storm.proofs.bench.ask.Given as goal

abbrev pub invariant-loop : goal.invariant-loop
invariant-loop g l = IsUnderWay l.defs.dedbs l.work l.locks
