use Rattle.dedb_storm.specs.Bench.{IsUnderWay}
use Rattle.dedb_storm.proofs.judging.locked_lines.Given as goal

abbrev pub invariant-loop-text : goal.invariant-loop-text
invariant-loop-text g l = IsUnderWay l.defs.dedbs l.work l.locks
