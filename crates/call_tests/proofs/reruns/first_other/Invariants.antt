use Rattle.std.specs.List.{AllByRecursion}
use Rattle.past_anchors.specs.Databases.{AreDedbsOf}
use Rattle.past_segments.specs.Pasts.{ArePastsOf}
use Rattle.past_segments.specs.Times.{IsSettledBy}
use Rattle.call_tests.proofs.reruns.first_other.Given as goal

abbrev pub invariant-loop-at : goal.invariant-loop-at
invariant-loop-at g l = record {
  are : ArePastsOf l.ground.defs.msdbs l.pasts;
  settled : AllByRecursion (IsSettledBy l.at) l.pasts;
  shape : AreDedbsOf l.ground.defs l.anchors;
}
