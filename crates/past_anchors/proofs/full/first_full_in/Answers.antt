use Rattle.std.proofs.Common.{◌<◌, ◌∙◌, [], length, arith}
use Rattle.fp_model.specs.declared.definitions.AreaDef.{AreaDef}
use Rattle.past_anchors.specs.Databases.{state_of}
use Rattle.past_anchors.specs.Fullness.{full_as}
use Rattle.past_anchors.proofs.Areas.{sum_step}
use Rattle.past_anchors.proofs.Fulls.{walk_here, walk_later}
use Rattle.past_anchors.proofs.full.first_full_in.Goals as goal
use Rattle.std.proofs.lemmas.Option.{slice_get-get_or}

-- no area at all, for a list that has one at the place
abbrev nothing : AreaDef
nothing = record { name = record { 0 = [] }; uows = 0; base = 0; overflow = 0; capacity = 0; copies = 0 }

pub returns-in-Some : goal.returns-in-Some
returns-in-Some c msdbs =
    let less : c.loop-def.def-index < length c.args.areas.now = omega arith in
    walk_here (state_of msdbs c.args.dedbs.now) c.args.inserts.now c.args.first_set c.args.dedb c.loop-def.number
    c.loop-def.first_anchor c.args.areas.now c.loop-def.def-index _ c.from.result
    (slice_get-get_or c.args.areas.now c.loop-def.def-index _ less) c.from.ensures (full_as c.in-Some.full)
    (c.in-Some.ensures msdbs) ∙ c.loop-def.invariant.full msdbs

pub loop-def-preserved : goal.loop-def-preserved
loop-def-preserved c =
    let less : c.loop-def.def-index < length c.args.areas.now = omega arith in
    record {
      full = λ msdbs. walk_later (state_of msdbs c.args.dedbs.now) c.args.inserts.now c.args.first_set c.args.dedb
          c.loop-def.number c.loop-def.first_anchor c.args.areas.now c.loop-def.def-index _ c.from.result
          (slice_get-get_or c.args.areas.now c.loop-def.def-index _ less) c.from.ensures c.anchors_in.result
          c.anchors_in.ensures.count (c.in_default.ensures msdbs) ∙ c.loop-def.invariant.full msdbs;
      number = omega arith;
      anchors =
          omega (
            arith,
            sum_step c.args.areas.now c.loop-def.def-index nothing less,
            c.anchors_in.ensures.count,
            c.loop-def.invariant.anchors,
          );
    }
