use Rattle.std.proofs.Common.{◌≡◌, ◌∙◌, ◌<◌, List, None, Some, ap, sym, get_or, length, slice_get, arith}
use Rattle.fp_model.specs.declared.database.Node.{Node}
use Rattle.fp_model.specs.Order.{node_key}
use Rattle.dli_tree.specs.Paths.{step_of}
use Rattle.dli_tree.specs.declared.place.Place.TheVariants.{Lacks, Stands}
use Rattle.key_order.proofs.Ascending.{stands_there}
use Rattle.dli_tree.proofs.Editing.{find_lacks, find_stands, placed_in, row_shape, twin_in_row, twin_no_kind, twin_no_row, twin_there}
use Rattle.dli_tree.proofs.Rows.{row_ascends, rows_shape, twin_shape}
use Rattle.dli_tree.proofs.standing.find_twin.Goals as goal
use Rattle.plain_laws.proofs.Places.{stands_at}

pub returns-in-None-clause-found : goal.returns-in-None-clause-found
returns-in-None-clause-found c shape = twin_no_kind c.args.segments.now c.args.parent (step_of c.args.step.now)
    c.args.rows.now c.row_of.result c.row_of.ensures c.in-None.is

pub returns-then-at-rows-clause-found : goal.returns-then-at-rows-clause-found
returns-then-at-rows-clause-found c shape = twin_no_row c.args.segments.now c.args.parent (step_of c.args.step.now)
    c.args.rows.now c.row_of.result c.in-Some.at c.row_of.ensures c.in-Some.is (omega arith)

pub returns-in-Stands-clause-found : goal.returns-in-Stands-clause-found
returns-in-Stands-clause-found c shape =
    let types = c.args.segments.now in
    let type = c.args.step.now.segment in
    let rows = c.args.rows.now in
    let row = c.index-rows-at.result in
    let there = stands_at rows c.in-Some.at row (omega arith) c.index-rows-at.is in
    let good = row_shape types c.args.parent type c.in-Some.at c.row_of.result rows row c.row_of.ensures c.in-Some.is
    there shape in
    let up = row_ascends types type row good in
    let key = node_key types type in
    let n = c.index-twins-place.result in
    let at = c.in-Stands.place in
    let lt : at < length row = omega (
      arith,
      c.in-Stands.ensures.within,
      ap (λ (xs : List Node). length xs) c.as_slice-twins.ensures,
    ) in
    let is : n ≡ get_or row at n = c.index-twins-place.is ∙ ap (λ (xs : List Node). get_or xs at n)
    c.as_slice-twins.ensures in
    let place = placed_in key c.args.step.now.key c.as_slice.result.now row c.as_slice-twins.result.now (Stands at)
    c.as_slice-twins.ensures c.as_slice.ensures c.in-Stands.ensures.place up in
    twin_in_row types c.args.parent (step_of c.args.step.now) rows c.row_of.result c.in-Some.at row (Some n)
    c.row_of.ensures c.in-Some.is there (find_stands key c.args.step.now.key row at n up place
    (stands_at row at n lt is))

pub returns-in-Stands-clause-shape : goal.returns-in-Stands-clause-shape
returns-in-Stands-clause-shape c shape =
    let types = c.args.segments.now in
    let type = c.args.step.now.segment in
    let rows = c.args.rows.now in
    let row = c.index-rows-at.result in
    let there = stands_at rows c.in-Some.at row (omega arith) c.index-rows-at.is in
    let good = row_shape types c.args.parent type c.in-Some.at c.row_of.result rows row c.row_of.ensures c.in-Some.is
    there shape in
    let n = c.index-twins-place.result in
    let at = c.in-Stands.place in
    let lt : at < length row = omega (
      arith,
      c.in-Stands.ensures.within,
      ap (λ (xs : List Node). length xs) c.as_slice-twins.ensures,
    ) in
    let is : n ≡ get_or row at n = c.index-twins-place.is ∙ ap (λ (xs : List Node). get_or xs at n)
    c.as_slice-twins.ensures in
    rows_shape types type n (twin_shape types type row at n good lt is)

pub returns-in-Lacks-clause-found : goal.returns-in-Lacks-clause-found
returns-in-Lacks-clause-found c shape =
    let types = c.args.segments.now in
    let type = c.args.step.now.segment in
    let rows = c.args.rows.now in
    let row = c.index-rows-at.result in
    let there = stands_at rows c.in-Some.at row (omega arith) c.index-rows-at.is in
    let good = row_shape types c.args.parent type c.in-Some.at c.row_of.result rows row c.row_of.ensures c.in-Some.is
    there shape in
    let up = row_ascends types type row good in
    let key = node_key types type in
    let place = placed_in key c.args.step.now.key c.as_slice.result.now row c.as_slice-twins.result.now
    (Lacks c.in-Lacks.field-0) c.as_slice-twins.ensures c.as_slice.ensures c.in-Lacks.ensures.place up in
    twin_in_row types c.args.parent (step_of c.args.step.now) rows c.row_of.result c.in-Some.at row None
    c.row_of.ensures c.in-Some.is there (find_lacks key c.args.step.now.key row c.in-Lacks.field-0 up place)
