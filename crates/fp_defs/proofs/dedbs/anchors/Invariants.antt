use Rattle.std.proofs.Common.{◌≡◌, ◌≤◌, ◌*◌, ◌^◌, take, sum_by}
use Rattle.fp_model.specs.State.{anchors_in}
use Rattle.fp_defs.proofs.dedbs.anchors.Given as goal

abbrev pub invariant-loop-area : goal.invariant-loop-area
invariant-loop-area l = (l.sum ≡ sum_by anchors_in (take l.area-index l.areas)) × (l.sum ≤ 2 ^ 48 * l.area-index)
