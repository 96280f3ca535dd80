use Rattle.past_segments.specs.Times.{IsSettledBy}
use Rattle.call_tests.proofs.places.run_steps.Given as goal

abbrev pub invariant-loop-step : goal.invariant-loop-step
invariant-loop-step l = IsSettledBy l.last l.past
