use Rattle.std.proofs.Common.{◌≡◌, ◌∙◌, ℕ, ap, sym, slice_get, arith, take, sum_by}
use Rattle.fp_model.specs.State.{anchors_in, areas_from}
use Rattle.past_anchors.proofs.Areas.{get_area}
use Rattle.past_anchors.proofs.area.area_of_number.Goals as goal

pub returns : goal.returns
returns c =
    let areas = c.args.areas.now in
    let at : c.loop-before.before ≡ c.from-at.result = omega arith in
    let sum : c.loop-before.first_anchor ≡ sum_by anchors_in (take c.from-at.result areas) =
    c.loop-before.invariant ∙ ap (λ (i : ℕ). sum_by anchors_in (take i areas)) at in
    ap (λ (k : ℕ). slice_get (areas_from c.args.dedb 0 0 areas) k) (sym c.from-at.ensures)
    ∙ get_area c.args.dedb 0 0 areas c.from-at.result c.args.number c.loop-before.first_anchor _ (omega arith)
    (omega arith) (omega (arith, sum))
