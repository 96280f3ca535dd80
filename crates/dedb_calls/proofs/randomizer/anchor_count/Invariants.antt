use Rattle.std.proofs.Common.{◌≡◌, take}
use Rattle.std.specs.Prelude.{sum_by}
use Rattle.fp_model.specs.State.{anchors_in}
use Rattle.dedb_calls.proofs.randomizer.anchor_count.Given as goal

-- those of the areas so far
abbrev pub invariant-loop-area : goal.invariant-loop-area
invariant-loop-area l = l.count ≡ sum_by anchors_in (take l.area-index l.def.areas)
