use Rattle.past_calls.specs.Progress.{IsWorkOf}
use Rattle.dedb_storm.proofs.judging.alone_lines.Given as goal

abbrev pub invariant-loop-text : goal.invariant-loop-text
invariant-loop-text g l = IsWorkOf l.defs l.work
