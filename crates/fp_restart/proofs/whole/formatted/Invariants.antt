use Rattle.std.specs.Prelude.{◌≡◌, [], map, replicate, sum_by, take}
use Rattle.fp_model.specs.State.{anchors_in}
use Rattle.fp_model.specs.declared.database.AreaEnds.{AreaEnds}
use Rattle.fp_restart.proofs.whole.formatted.Given as goal

-- the areas so far have their anchors and ends
abbrev pub invariant-loop-area : goal.invariant-loop-area
invariant-loop-area l = record {
  anchors : l.anchors ≡ replicate (sum_by anchors_in (take l.area-index l.area-items)) [];
  areas : l.areas ≡ map (λ area. let ends : AreaEnds = record { begin = 1; end = 1 } in ends)
      (take l.area-index l.area-items);
}
