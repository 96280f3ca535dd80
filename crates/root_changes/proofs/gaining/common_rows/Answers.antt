use Rattle.std.proofs.Common.{arith}
use Rattle.root_changes.specs.Differing.{RowDiffers}
use Rattle.root_changes.proofs.ComparingLemmas.{rows_apart, row_told}
use Rattle.root_changes.proofs.GainingLemmas.{alike_on, alike_ends, tells_apart}
use Rattle.root_changes.proofs.gaining.common_rows.Goals as goal

pub returns-in_default : goal.returns-in_default
returns-in_default c =
    let a = c.index-rows-place.result in
    let b = c.index-others-place.result in
    alike_ends c.args.rows.now c.args.others.now c.loop-place.place a b (omega (arith, c.loop-place-test.true))
    (omega (arith, c.if-place-others.true)) c.index-rows-place.is c.index-others-place.is
    (tells_apart RowDiffers rows_apart a b c.compare_row.result (row_told a b c.compare_row.result c.compare_row.ensures.tells) c.in_default.not-Nowhere)
    c.loop-place.invariant.alike

pub loop-place-preserved : goal.loop-place-preserved
loop-place-preserved c =
    let a = c.index-rows-place.result in
    let b = c.index-others-place.result in
    record {
      within = omega (arith, c.loop-place-test.true);
      within_other = omega (arith, c.if-place-others.true);
      alike = alike_on c.args.rows.now c.args.others.now c.loop-place.place a b (omega (arith, c.loop-place-test.true))
          (omega (arith, c.if-place-others.true)) c.index-rows-place.is c.index-others-place.is
          ((row_told a b c.compare_row.result c.compare_row.ensures.tells).nowhere c.in-Nowhere.is) c.loop-place.invariant.alike;
    }
