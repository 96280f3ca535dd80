use Rattle.std.proofs.Common.{◌∙◌, ◌≤◌, length, ap, subst, arith}
use Rattle.std.proofs.lemmas.Bool.Decides.{nat_tests}
use Rattle.area_staging.specs.Items.{IsChange}
use Rattle.dedb_area.proofs.PurgeItems.{control_fits}
use Rattle.dedb_area.proofs.purging.stage_control.Goals as goal

pub returns-clause-sizes : goal.returns-clause-sizes
returns-clause-sizes c = λ s n long was.
    c.stage.ensures.sizes s n
    (λ e. ap length (c.in_ok-from_slice.ensures ∙ c.whole-3.ensures.bytes) ∙ long e) was

pub returns-clause-fit : goal.returns-clause-fit
returns-clause-fit c =
    let long = c.size-size.ensures.size in
    let size = c.size-size.ensures.is_size in
    let short : length c.args.new.now ≤ 4096 = grind (arith, nat_tests, long, size) in
    control_fits c.is_imaged-has_item.result c.args.set c.whole.result.now c.whole-2.result.now c.args.new.now
    c.in-Some.item c.whole-2.ensures.bytes short
    (subst (IsChange c.is_imaged-has_item.result c.args.set 0 c.whole.result.now c.whole-2.result.now) c.in-Some.is
    c.in_ok-item.ensures)
