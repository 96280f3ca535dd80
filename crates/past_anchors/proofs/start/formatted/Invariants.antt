use Rattle.std.proofs.Common.{◌≡◌, [], List, map, replicate, sum_by, take}
use Rattle.fp_model.specs.State.{anchors_in, first_ends}
use Rattle.fp_model.specs.declared.database.Root.{Root}
use Rattle.past_anchors.proofs.start.formatted.Given as goal

abbrev pub invariant-loop-area : goal.invariant-loop-area
invariant-loop-area l = record {
  anchors : l.anchors ≡ replicate {A = List Root} (sum_by anchors_in (take l.area-index l.def.areas)) [];
  areas : l.areas ≡ map (λ area. first_ends) (take l.area-index l.def.areas);
}
