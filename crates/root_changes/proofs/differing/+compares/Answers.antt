use Rattle.std.proofs.Common.{◌∙◌, get_or, ap, arith}
use Rattle.root_changes.specs.Differing.{NodesDiffer, RowDiffers}
use Rattle.root_changes.proofs.ComparingLemmas.{same_below, more_below, own_is, own_below, place_apart, rows_apart, nodes_apart, other_lengths, told_next, all_told, node_told, row_told, inside}
use Rattle.root_changes.proofs.differing.+compares.Goals as goal

pub compare_below-returns-then-same : goal.compare_below-returns-then-same
compare_below-returns-then-same t c = same_below _ c.args.rows.now c.args.others.now _ c.if-same.true
    c.compare_rows-below.ensures

pub compare_below-returns-in_default : goal.compare_below-returns-in_default
compare_below-returns-in_default t c = more_below _ c.args.rows.now c.args.others.now
    (λ h. absurd (let e = c.if-same.false in cc))
    (place_apart RowDiffers rows_apart c.args.rows.now c.args.others.now _ c.compare_rows-below.ensures
    c.in_default.not-Nowhere)

pub compare_nodes-returns : goal.compare_nodes-returns
compare_nodes-returns t c =
    own_below _ _ _ _ _ c.as_slice.ensures c.as_slice-2.ensures (own_is c.same_bytes.ensures c.compare_below.ensures)

pub compare_row-returns-then-len-clause-tells : goal.compare_row-returns-then-len-clause-tells
compare_row-returns-then-len-clause-tells t c =
    other_lengths NodesDiffer c.args.row.now c.args.other.now (λ e. absurd (omega (arith, e, c.len.ensures, c.len-2.ensures, c.if-len.true)))

pub compare_row-loop-place-preserved : goal.compare_row-loop-place-preserved
compare_row-loop-place-preserved t c =
    let a = c.index-as_slice-place.result in
    let b = c.index-as_slice-place-in-loop-place.result in
    let k = c.loop-place.place in
    record {
      within = omega (arith, c.loop-place-test.true, c.len-in-loop-place.ensures);
      told = told_next NodesDiffer nodes_apart c.args.row.now c.args.other.now k a b c.loop-place.so_far
          c.compare_nodes-item.result _ (omega (arith, c.len.ensures, c.len-2.ensures, c.if-len.false))
          (omega (arith, c.loop-place-test.true, c.len-in-loop-place.ensures))
          (c.index-as_slice-place.is ∙ ap (λ xs. get_or xs k a) c.as_slice.ensures)
          (c.index-as_slice-place-in-loop-place.is ∙ ap (λ xs. get_or xs k b) c.as_slice-in-loop-place.ensures)
          c.joined-so_far.ensures c.loop-place.invariant.told (node_told a b _ c.compare_nodes-item.ensures);
    }

pub compare_row-returns-clause-tells : goal.compare_row-returns-clause-tells
compare_row-returns-clause-tells t c = all_told NodesDiffer c.args.row.now c.args.other.now c.loop-place.place
    c.loop-place.so_far (omega (arith, c.loop-place-test.false, c.len-in-loop-place.ensures))
    (omega (arith, c.loop-place-test.false, c.len-in-loop-place.ensures, c.len.ensures, c.len-2.ensures, c.if-len.false))
    c.loop-place.invariant.told

pub compare_row-returns-clause-inside : goal.compare_row-returns-clause-inside
compare_row-returns-clause-inside t c = λ k e. inside NodesDiffer c.args.row.now c.args.other.now k
    ((all_told NodesDiffer c.args.row.now c.args.other.now c.loop-place.place
    c.loop-place.so_far (omega (arith, c.loop-place-test.false, c.len-in-loop-place.ensures))
    (omega (arith, c.loop-place-test.false, c.len-in-loop-place.ensures, c.len.ensures, c.len-2.ensures, c.if-len.false))
    c.loop-place.invariant.told).place k e)

pub compare_rows-returns-then-rows-others : goal.compare_rows-returns-then-rows-others
compare_rows-returns-then-rows-others t c =
    other_lengths RowDiffers c.args.rows.now c.args.others.now (λ e. absurd (omega (arith, e, c.if-rows-others.true)))

pub compare_rows-loop-place-preserved : goal.compare_rows-loop-place-preserved
compare_rows-loop-place-preserved t c =
    let a = c.index-rows-place.result in
    let b = c.index-others-place.result in
    let k = c.loop-place.place in
    record {
      within = omega (arith, c.loop-place-test.true);
      told = told_next RowDiffers rows_apart c.args.rows.now c.args.others.now k a b c.loop-place.so_far
          c.compare_row-item.result _ (omega (arith, c.if-rows-others.false)) (omega (arith, c.loop-place-test.true))
          c.index-rows-place.is c.index-others-place.is c.joined-so_far.ensures c.loop-place.invariant.told
          (row_told a b _ c.compare_row-item.ensures.tells);
    }

pub compare_rows-returns : goal.compare_rows-returns
compare_rows-returns t c = all_told RowDiffers c.args.rows.now c.args.others.now c.loop-place.place c.loop-place.so_far
    (omega (arith, c.loop-place-test.false)) (omega (arith, c.loop-place-test.false, c.if-rows-others.false))
    c.loop-place.invariant.told
