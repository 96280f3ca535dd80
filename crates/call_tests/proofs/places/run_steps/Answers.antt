use Rattle.std.proofs.Common.{◌≤◌, arith}
use Rattle.call_tests.proofs.Settled.{settled_later}
use Rattle.call_tests.proofs.places.run_steps.Goals as goal

pub change-requires : goal.change-requires
change-requires c =
    let le : c.loop-step.last ≤ c.max-last.result = grind (arith, c.max-last.ensures) in
    settled_later c.loop-step.last c.max-last.result c.loop-step.past le c.loop-step.invariant
