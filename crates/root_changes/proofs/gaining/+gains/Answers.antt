use Rattle.std.proofs.Common.{inl, inr, ◌+◌, ◌∙◌, ap, sym, arith}
use Rattle.root_changes.specs.Gaining.{RowGains}
use Rattle.root_changes.specs.Telling.{IsOwnNode, node_rows}
use Rattle.root_changes.proofs.GainingLemmas.{as_rest, told_as, new_told, lengths_told, rest_told, within_told, row_gains_so, in_not, in_lengths, in_rest, in_row, in_told}
use Rattle.root_changes.proofs.ComparingLemmas.{same_lengths}
use Rattle.root_changes.proofs.gaining.+gains.Goals as goal

pub gain_of_row-returns-then-row-other : goal.gain_of_row-returns-then-row-other
gain_of_row-returns-then-row-other t c =
    let xs = c.as_slice-row.result.now in
    let ys = c.as_slice-other.result.now in
    record {
      tells = told_as c.args.row.now c.args.other.now xs ys _ c.as_slice-row.ensures c.as_slice-other.ensures
          (new_told IsOwnNode node_rows RowGains xs ys (row_gains_so xs ys) c.common_nodes-place.result
          c.common_nodes-rest.result c.index-other-place.result _ _ _ c.common_nodes-place.ensures
          (as_rest xs ys c.common_nodes-place.result (c.common_nodes-place.result + 1) c.common_nodes-rest.result c.common_nodes-rest.ensures) (omega (arith, c.if-row-other.true)) c.index-other-place.is (c.as_slice.ensures ∙ ap node_rows (sym c.index-other-place.is))
          (λ e. omega (arith, e, c.common_nodes-place.ensures.within))
          (λ e. omega (arith, e)) c.gain_new.ensures);
    }

pub gain_of_row-returns-then-row-other-2 : goal.gain_of_row-returns-then-row-other-2
gain_of_row-returns-then-row-other-2 t c =
    let xs = c.as_slice-row.result.now in
    let ys = c.as_slice-other.result.now in
    record {
      tells = told_as c.args.row.now c.args.other.now xs ys _ c.as_slice-row.ensures c.as_slice-other.ensures
          (lengths_told IsOwnNode node_rows RowGains xs ys (row_gains_so xs ys) c.common_nodes-place.result
          c.common_nodes-place.ensures (λ e. absurd (omega (arith, e, c.if-row-other.false)))
          (inl (λ e. absurd (omega (arith, e, c.if-row-other-2.true)))));
    }

pub gain_of_row-returns-then-place-row : goal.gain_of_row-returns-then-place-row
gain_of_row-returns-then-place-row t c =
    let xs = c.as_slice-row.result.now in
    let ys = c.as_slice-other.result.now in
    record {
      tells = told_as c.args.row.now c.args.other.now xs ys _ c.as_slice-row.ensures c.as_slice-other.ensures
          (lengths_told IsOwnNode node_rows RowGains xs ys (row_gains_so xs ys) c.common_nodes-place.result
          c.common_nodes-place.ensures (λ e. absurd (omega (arith, e, c.if-row-other.false)))
          (inr (omega (arith, c.if-row-other-2.false), omega (arith, c.if-place-row.true))));
    }

pub gain_of_row-returns-then-place-rest : goal.gain_of_row-returns-then-place-rest
gain_of_row-returns-then-place-rest t c =
    let xs = c.as_slice-row.result.now in
    let ys = c.as_slice-other.result.now in
    record {
      tells = told_as c.args.row.now c.args.other.now xs ys _ c.as_slice-row.ensures c.as_slice-other.ensures
          (rest_told IsOwnNode node_rows RowGains xs ys (row_gains_so xs ys) c.common_nodes-place.result
          c.common_nodes-rest-2.result c.common_nodes-place.ensures (as_rest xs ys (c.common_nodes-place.result + 1) (c.common_nodes-place.result + 1) c.common_nodes-rest-2.result c.common_nodes-rest-2.ensures)
          (λ e. absurd (omega (arith, e, c.if-row-other.false)))
          (λ e. absurd (omega (arith, e, c.if-place-rest.true))));
    }

pub gain_of_row-returns : goal.gain_of_row-returns
gain_of_row-returns t c =
    let xs = c.as_slice-row.result.now in
    let ys = c.as_slice-other.result.now in
    record {
      tells = told_as c.args.row.now c.args.other.now xs ys _ c.as_slice-row.ensures c.as_slice-other.ensures
          (within_told IsOwnNode node_rows RowGains xs ys (row_gains_so xs ys) c.common_nodes-place.result
          c.common_nodes-rest-2.result c.index-row-place.result c.index-other-place-2.result _ _ _ _
          c.common_nodes-place.ensures (as_rest xs ys (c.common_nodes-place.result + 1) (c.common_nodes-place.result + 1) c.common_nodes-rest-2.result c.common_nodes-rest-2.ensures) (omega (arith, c.if-row-other-2.false))
          (λ e. absurd (omega (arith, e, c.if-place-row.false))) (omega (arith, c.if-place-rest.false))
          c.index-row-place.is c.index-other-place-2.is c.as_slice-2.ensures
          c.as_slice-3.ensures
          c.same_bytes.ensures.0 c.same_bytes.ensures.1 c.gain_within.ensures);
    }

pub gain_within-returns-then-not-same : goal.gain_within-returns-then-not-same
gain_within-returns-then-not-same t c = in_not _ c.args.place c.args.rows.now c.args.others.now
    (λ own j. absurd (let f = c.if-not-same.true in cc))

pub gain_within-returns-then-rows-others : goal.gain_within-returns-then-rows-others
gain_within-returns-then-rows-others t c = in_not _ c.args.place c.args.rows.now c.args.others.now
    (λ own j g. absurd (omega (
      arith,
      c.if-rows-others.true,
      same_lengths c.args.rows.now c.args.others.now j g.lower
          g.more g.at,
    )))

pub gain_within-returns-then-number-rows : goal.gain_within-returns-then-number-rows
gain_within-returns-then-number-rows t c = in_not _ c.args.place c.args.rows.now c.args.others.now
    (λ own j. in_lengths c.args.rows.now c.args.others.now c.common_rows-number.result j c.common_rows-number.ensures
    (inr (omega (arith, c.if-rows-others.false), omega (arith, c.if-number-rows.true))))

pub gain_within-returns-then-number-rest : goal.gain_within-returns-then-number-rest
gain_within-returns-then-number-rest t c = in_not _ c.args.place c.args.rows.now c.args.others.now
    (λ own j. in_rest c.args.rows.now c.args.others.now c.common_rows-number.result c.common_rows-rest.result j
    c.common_rows-number.ensures (as_rest c.args.rows.now c.args.others.now (c.common_rows-number.result + 1) (c.common_rows-number.result + 1) c.common_rows-rest.result c.common_rows-rest.ensures) (λ e. absurd (omega (arith, e, c.if-number-rest.true))))

pub gain_within-returns-in-Not : goal.gain_within-returns-in-Not
gain_within-returns-in-Not t c = in_not _ c.args.place c.args.rows.now c.args.others.now
    (λ own j g. c.gain_of_row.ensures.tells.none c.in-Not.is
    (in_row c.args.rows.now c.args.others.now c.common_rows-number.result c.common_rows-rest.result j
    c.index-rows-number.result c.index-others-number.result c.common_rows-number.ensures (as_rest c.args.rows.now c.args.others.now (c.common_rows-number.result + 1) (c.common_rows-number.result + 1) c.common_rows-rest.result c.common_rows-rest.ensures)
    (omega (arith, c.if-rows-others.false)) (λ e. absurd (omega (arith, e, c.if-number-rows.false)))
    c.index-rows-number.is c.index-others-number.is g))

pub gain_within-returns-in_default : goal.gain_within-returns-in_default
gain_within-returns-in_default t c =
    in_told _ c.args.place c.args.rows.now c.args.others.now c.common_rows-number.result c.common_rows-rest.result
    c.index-rows-number.result c.index-others-number.result c.gain_of_row.result
    (let f = c.if-not-same.false in cc) c.common_rows-number.ensures (as_rest c.args.rows.now c.args.others.now (c.common_rows-number.result + 1) (c.common_rows-number.result + 1) c.common_rows-rest.result c.common_rows-rest.ensures)
    (omega (arith, c.if-rows-others.false)) (λ e. absurd (omega (arith, e, c.if-number-rows.false)))
    (omega (arith, c.if-number-rest.false)) c.index-rows-number.is c.index-others-number.is
    c.gain_of_row.ensures.tells c.in_default.not-Not
