use Rattle.std.proofs.Common.{◌≡◌, ◌-◌, drop, slice_get}
use Rattle.fp_model.specs.State.{areas_of, areas_of_all}
use Rattle.past_anchors.proofs.area.area_of_set.Given as goal

-- it is that of a number among the areas that are left
abbrev pub invariant-loop-def : goal.invariant-loop-def
invariant-loop-def l = record {
  area : slice_get (areas_of_all l.dedb (drop l.def-index l.defs.dedbs)) l.number
      ≡ slice_get (areas_of l.defs) (l.set - 3);
  dedb : l.dedb ≡ l.def-index;
}
