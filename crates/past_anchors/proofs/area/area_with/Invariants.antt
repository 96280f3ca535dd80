use Rattle.std.proofs.Common.{◌≡◌, ◌+◌, drop, sum_by}
use Rattle.std.specs.Prelude.{find}
use Rattle.fp_model.specs.State.{anchors_in, areas_from, has_anchor}
use Rattle.past_anchors.proofs.area.area_with.Given as goal

-- it is looked for among the areas that are left
abbrev pub invariant-loop-def : goal.invariant-loop-def
invariant-loop-def l = record {
  found : find (λ area. has_anchor area l.dedb l.anchor)
      (areas_from l.dedb l.number l.first_anchor (drop l.def-index l.areas))
      ≡ find (λ area. has_anchor area l.dedb l.anchor) (areas_from l.dedb 0 0 l.areas);
  number : l.number ≡ l.def-index;
  anchors : l.first_anchor + sum_by anchors_in (drop l.def-index l.areas) ≡ sum_by anchors_in l.areas;
}
