use Rattle.past_calls.specs.Progress.{IsWorkOf}
use Rattle.dedb_storm.proofs.alone.ask_alone.Given as goal

abbrev pub invariant-loop : goal.invariant-loop
invariant-loop g l = IsWorkOf l.defs l.work
