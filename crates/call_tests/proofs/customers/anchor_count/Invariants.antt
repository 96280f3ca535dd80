use Rattle.std.proofs.Common.{◌≡◌, take, sum_by}
use Rattle.fp_model.specs.State.{anchors_in}
use Rattle.call_tests.proofs.customers.anchor_count.Given as goal

abbrev pub invariant-loop-area : goal.invariant-loop-area
invariant-loop-area l = l.count ≡ sum_by anchors_in (take l.area-index l.def.areas)
