use Rattle.std.proofs.Common.{◌≡◌, take}
use Rattle.past_anchors.proofs.anchors.Anchors.copy_roots.Given as goal

abbrev pub invariant-loop-root : goal.invariant-loop-root
invariant-loop-root l = l.copies ≡ take l.root-index l.root-items
