use Rattle.past_anchors.specs.Databases.{AreDedbsOf}
use Rattle.call_tests.proofs.anchors.first_wrong.Given as goal

abbrev pub invariant-loop-at : goal.invariant-loop-at
invariant-loop-at l = AreDedbsOf l.defs l.anchors
