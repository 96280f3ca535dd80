use Rattle.std.proofs.Common.{◌≡◌, take, sum_by}
use Rattle.fp_model.specs.State.{anchors_in}
use Rattle.past_anchors.proofs.area.area_of_number.Given as goal

abbrev pub invariant-loop-before : goal.invariant-loop-before
invariant-loop-before l = l.first_anchor ≡ sum_by anchors_in (take l.before l.areas)
