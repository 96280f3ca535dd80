use Rattle.past_replay.specs.inside.Running.{IsUnderWay}
use Rattle.past_replay.proofs.running.Running.run.Given as goal

abbrev pub invariant-loop : goal.invariant-loop
invariant-loop g l = IsUnderWay l.it l.counter l.self
