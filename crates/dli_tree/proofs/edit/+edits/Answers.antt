use Rattle.std.proofs.Common.{◌≡◌, ◌∙◌, ◌<◌, List, length, ap, sym, slice_set, arith}
use Rattle.fp_model.specs.declared.database.Node.{Node, out-Node, roll-Node}
use Rattle.fp_model.specs.Order.{node_key}
use Rattle.std.proofs.lemmas.List.{take_rest}
use Rattle.dli_tree.specs.declared.path.Step.{Step as StepOf}
use Rattle.dli_tree.specs.Changes.{edit_of}
use Rattle.dli_tree.specs.inside.Changes.{twins_edited}
use Rattle.dli_tree.specs.Paths.{step_of, steps_of}
use Rattle.dli_tree.specs.declared.place.Place.TheVariants.{Lacks, Stands}
use Rattle.dli_tree.proofs.Editing.{change_lacks, change_stands, changed_below, placed_in, row_end, row_goes, row_shape, rows_at, rows_none, rows_past, same_children, twin_there}
use Rattle.dli_tree.proofs.Rows.{row_ascends, rows_shape, twin_shape}
use Rattle.dli_tree.proofs.edit.+edits.Goals as goal
use Rattle.plain_laws.proofs.Results.{on_err_by, on_ok_by}
use Rattle.plain_laws.proofs.Places.{set_same}

pub edit_row-returns-then-is_empty-clause-ok : goal.edit_row-returns-then-is_empty-clause-ok
edit_row-returns-then-is_empty-clause-ok t c shape =
    on_ok_by _ _ c.edit_twins.result (λ is. is ∙ row_end c.args.segments.now (edit_of c.args.change)
    (step_of c.args.step.now) c.args.rest.now c.args.twins.now (sym c.is_empty.ensures ∙ c.if-is_empty.true))
    (c.edit_twins.ensures.ok (row_ascends c.args.segments.now c.args.step.now.segment c.args.twins.now shape))

pub edit_row-returns-in-Stands-clause-ok : goal.edit_row-returns-in-Stands-clause-ok
edit_row-returns-in-Stands-clause-ok t c shape =
    let types = c.args.segments.now in
    let type = c.args.step.now.segment in
    let twins = c.args.twins.now in
    let edit = edit_of c.args.change in
    let at = c.in-Stands.at in
    let n = c.item_mut.result.now in
    let up = row_ascends types type twins shape in
    let key = node_key types type in
    let place = placed_in key c.args.step.now.key c.as_slice-2.result.now twins c.as_slice.result.now (Stands at)
    c.as_slice.ensures c.as_slice-2.ensures c.in-Stands.ensures.place up in
    let lt : at < length twins = omega (
      arith,
      c.in-Stands.ensures.within,
      ap (λ (xs : List Node). length xs) c.as_slice.ensures,
    ) in
    let below = rows_shape types type n (twin_shape types type twins at n shape lt
    (twin_there twins at n c.item_mut.ensures.value)) in
    on_ok_by _ _ c.edit_rows.result (λ is. ap (λ (rows : List (List Node)). slice_set twins at
    (roll-Node (record { bytes = (out-Node n).bytes; children = rows }))) is
    ∙ change_stands key c.args.step.now.key (changed_below types edit type (steps_of c.args.rest.now)) twins at n up
    place c.item_mut.ensures.value
    ∙ row_goes types edit (step_of c.args.step.now) c.args.rest.now twins
    (sym c.is_empty.ensures ∙ c.if-is_empty.false)) (c.edit_rows.ensures.ok below)

pub edit_row-returns-in-Stands-clause-err : goal.edit_row-returns-in-Stands-clause-err
edit_row-returns-in-Stands-clause-err t c =
    let n = c.item_mut.result.now in
    on_err_by _ _ c.edit_rows.result (λ is. ap (λ (rows : List (List Node)). slice_set c.args.twins.now c.in-Stands.at
    (roll-Node (record { bytes = (out-Node n).bytes; children = rows }))) is
    ∙ same_children c.args.twins.now c.in-Stands.at n c.item_mut.ensures.value) c.edit_rows.ensures.err

pub edit_row-returns-in-Lacks-clause-ok : goal.edit_row-returns-in-Lacks-clause-ok
edit_row-returns-in-Lacks-clause-ok t c shape =
    let types = c.args.segments.now in
    let type = c.args.step.now.segment in
    let twins = c.args.twins.now in
    let edit = edit_of c.args.change in
    let up = row_ascends types type twins shape in
    let key = node_key types type in
    let place = placed_in key c.args.step.now.key c.as_slice-2.result.now twins c.as_slice.result.now
    (Lacks c.in-Lacks.field-0) c.as_slice.ensures c.as_slice-2.ensures c.in-Lacks.ensures.place up in
    change_lacks key c.args.step.now.key (changed_below types edit type (steps_of c.args.rest.now)) twins
    c.in-Lacks.field-0 up place
    ∙ row_goes types edit (step_of c.args.step.now) c.args.rest.now twins (sym c.is_empty.ensures ∙ c.if-is_empty.false)

pub edit_rows-returns-then-at-len-clause-ok : goal.edit_rows-returns-then-at-len-clause-ok
edit_rows-returns-then-at-len-clause-ok t c shape =
    rows_past c.args.segments.now (edit_of c.args.change) c.args.parent c.args.steps.now c.index-steps-0.result
    c.args.rows.now (sym c.is_empty.ensures ∙ c.if-is_empty.false) c.index-steps-0.is
    c.row_of.result c.in-Some.at c.row_of.ensures c.in-Some.is (omega (arith, c.len.ensures, c.if-at-len.true))

pub edit_rows-returns-in-None-clause-ok : goal.edit_rows-returns-in-None-clause-ok
edit_rows-returns-in-None-clause-ok t c shape =
    rows_none c.args.segments.now (edit_of c.args.change) c.args.parent c.args.steps.now c.index-steps-0.result
    c.args.rows.now (sym c.is_empty.ensures ∙ c.if-is_empty.false) c.index-steps-0.is
    c.row_of.result c.row_of.ensures c.in-None.is

pub edit_rows-returns-else-at-len-clause-ok : goal.edit_rows-returns-else-at-len-clause-ok
edit_rows-returns-else-at-len-clause-ok t c shape =
    let types = c.args.segments.now in
    let s = c.index-steps-0.result in
    let row = c.item_mut.result.now in
    let below = row_shape types c.args.parent s.segment c.in-Some.at c.row_of.result c.args.rows.now row
    c.row_of.ensures c.in-Some.is c.item_mut.ensures.value shape in
    on_ok_by _ _ c.edit_row.result (λ is. ap (λ (r : List Node). slice_set c.args.rows.now c.in-Some.at r)
    (is ∙ ap (λ (rest : List StepOf). twins_edited types (edit_of c.args.change) (step_of s) (steps_of rest) row)
    (take_rest c.args.steps.now 1))
    ∙ rows_at types (edit_of c.args.change) c.args.parent c.args.steps.now s c.args.rows.now
    (sym c.is_empty.ensures ∙ c.if-is_empty.false) c.index-steps-0.is c.row_of.result c.in-Some.at row
    c.row_of.ensures c.in-Some.is c.item_mut.ensures.value)
    (c.edit_row.ensures.ok below)

pub edit_rows-returns-else-at-len-clause-err : goal.edit_rows-returns-else-at-len-clause-err
edit_rows-returns-else-at-len-clause-err t c =
    on_err_by _ _ c.edit_row.result (λ is. ap (λ (r : List Node). slice_set c.args.rows.now c.in-Some.at r) is ∙
    set_same c.args.rows.now c.in-Some.at c.item_mut.result.now c.item_mut.ensures.value) c.edit_row.ensures.err
