use Rattle.std.proofs.Common.{◌∙◌, [], ap, ◌++◌, get_or, replicate}
use Rattle.fp_model.specs.State.{anchors_in}
use Rattle.fp_model.specs.declared.database.AreaEnds.{AreaEnds}
use Rattle.fp_model.specs.declared.definitions.AreaDef.{AreaDef}
use Rattle.fp_restart.proofs.Formats.{constant_next, replicate_next}
use Rattle.fp_restart.proofs.whole.formatted.Goals as goal

abbrev ends : AreaEnds
ends = record { begin = 1; end = 1 }

-- what stands past the end of a list of areas
abbrev none : AreaDef
none = record { name = record { 0 = [] }; uows = 0; base = 0; overflow = 0; capacity = 0; copies = 0 }

pub loop-area-preserved : goal.loop-area-preserved
loop-area-preserved c =
    let areas = c.as_slice-area-items.result.now in
    let so_far = c.loop-area.invariant in
    record {
      anchors = replicate_next anchors_in areas c.loop-area.area-index none [] c.add_anchors.new.anchors
          c.loop-area-test.true
          (c.in_ok-add_anchors.ensures ∙ ap (λ l. l ++ replicate (anchors_in (get_or areas c.loop-area.area-index none))
          []) so_far.anchors);
      areas = constant_next areas c.loop-area.area-index none ends c.push.new.self c.loop-area.areas
          c.loop-area-test.true c.in_ok-push.ensures.ok so_far.areas;
    }
