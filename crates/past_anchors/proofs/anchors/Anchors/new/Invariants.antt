use Rattle.std.proofs.Common.{◌≡◌, map, take}
use Rattle.fp_model.specs.State.{formatted}
use Rattle.past_anchors.proofs.anchors.Anchors.new.Given as goal

abbrev pub invariant-loop-def : goal.invariant-loop-def
invariant-loop-def l = l.dedbs ≡ map formatted (take l.def-index l.defs.dedbs)
