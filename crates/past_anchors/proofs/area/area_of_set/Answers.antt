use Rattle.std.proofs.Common.{◌≡◌, ◌<◌, length, get_or, ap, arith, refl}
use Rattle.past_anchors.specs.inside.Places.{area_of}
use Rattle.past_anchors.proofs.Areas.{set_found, set_later}
use Rattle.past_anchors.proofs.area.area_of_set.Goals as goal

pub returns-then-number-len : goal.returns-then-number-len
returns-then-number-len c =
    let defs = c.args.defs.now in
    let its : c.as_slice.result.now ≡ (get_or defs.dedbs c.loop-def.def-index c.def-item.result).areas = cc in
    let less : c.loop-def.def-index < length defs.dedbs = omega (arith, ap length c.as_slice-def-items.ensures) in
    set_found defs c.loop-def.dedb c.loop-def.def-index c.loop-def.number c.args.set c.def-item.result
    c.as_slice.result.now (omega arith) less its c.loop-def.invariant.area (area_of c.area_of_number.result)
    c.loop-def.number refl (omega (arith, c.len.ensures, ap length c.as_slice.ensures)) c.area_of_number.ensures

pub loop-def-preserved : goal.loop-def-preserved
loop-def-preserved c =
    let defs = c.args.defs.now in
    let d = get_or defs.dedbs c.loop-def.def-index c.def-item.result in
    let less : c.loop-def.def-index < length defs.dedbs = omega (arith, ap length c.as_slice-def-items.ensures) in
    let n : c.len-number.result ≡ length d.areas = cc in
    let past : c.len-number.result ≡ c.len.result = cc in
    record {
      area =
          set_later defs c.loop-def.dedb c.loop-def.def-index c.loop-def.number c.args.set c.def-item.result d.areas
          (omega arith) less refl c.loop-def.invariant.area c.len-number.result n (omega (arith, past));
      dedb = omega arith;
    }
