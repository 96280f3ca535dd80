use Rattle.std.proofs.Common.{◌≡◌, ◌<◌, ◌∙◌, ap, sym, length, arith, get_or}
use Rattle.fp_model.specs.State.{areas_of_all, first_area_set}
use Rattle.past_anchors.specs.Databases.{state_of}
use Rattle.past_anchors.proofs.Areas.{are_few}
use Rattle.past_anchors.proofs.Fulls.{in_all_here, in_all_later, none_is_full_of}
use Rattle.past_anchors.proofs.full.first_full.Goals as goal
use Rattle.plain_laws.proofs.Lists.{is_nil}

pub returns-then-is_empty : goal.returns-then-is_empty
returns-then-is_empty c msdbs =
    none_is_full_of (state_of msdbs c.args.dedbs.now) c.args.inserts.now first_area_set (areas_of_all 0 c.args.defs.now)
    (is_nil c.args.inserts.now (sym c.is_empty.ensures ∙ c.if-is_empty.true))

pub returns-then-is_some : goal.returns-then-is_some
returns-then-is_some c msdbs =
    let defs = c.args.defs.now in
    let less : c.loop-def.def-index < length defs = omega arith in
    let its : c.as_slice.result.now ≡ (get_or defs c.loop-def.def-index c.def-item.result).areas = cc in
    in_all_here (state_of msdbs c.args.dedbs.now) c.args.inserts.now c.loop-def.set c.loop-def.dedb defs
    c.loop-def.def-index c.def-item.result c.as_slice.result.now less its c.first_full_in-full.result
    (sym c.is_some.ensures ∙ c.if-is_some.true)
    (c.first_full_in-full.ensures msdbs) ∙ c.loop-def.invariant.full msdbs

pub loop-def-preserved : goal.loop-def-preserved
loop-def-preserved c =
    let defs = c.args.defs.now in
    let less : c.loop-def.def-index < length defs = omega arith in
    let its : c.as_slice.result.now ≡ (get_or defs c.loop-def.def-index c.def-item.result).areas = cc in
    let few = are_few defs c.loop-def.def-index c.def-item.result c.requires.good less in
    let long : c.len.result ≡ length c.as_slice.result.now = cc in
    record {
      full = λ msdbs. in_all_later (state_of msdbs c.args.dedbs.now) c.args.inserts.now c.loop-def.set c.loop-def.dedb
          defs c.loop-def.def-index c.def-item.result c.as_slice.result.now less its c.first_full_in-full.result
          c.len.result (sym c.is_some.ensures ∙ c.if-is_some.false) long
          (c.first_full_in-full.ensures msdbs) ∙ c.loop-def.invariant.full msdbs;
      dedb = omega arith;
      set = omega (arith, long, ap length its, few.count);
    }
