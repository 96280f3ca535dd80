use Rattle.std.proofs.Common.{◌∙◌, ap, sym}
use Rattle.std.specs.Prelude.{find, option_map}
use Rattle.std.specs.Option.{option_or}
use Rattle.fp_model.specs.Order.{child_types, rows_in_order}
use Rattle.dli_tree.specs.inside.Aims.{aim_of, looks_for}
use Rattle.dli_tree.specs.Paths.{occurrence_of}
use Rattle.dli_tree.proofs.Roots.{root_past, rows_answer, seq_answer, shaped}
use Rattle.dli_tree.proofs.Rows.{orders}
use Rattle.dli_tree.proofs.first.at_root.Goals as goal
use Rattle.plain_laws.proofs.Results.{if_ok_by}

pub returns-in-Some : goal.returns-in-Some
returns-in-Some c shape =
    let types = c.args.segments.now in
    let aim = aim_of c.args.aim in
    let root = c.args.root.now in
    let found = seq_answer types aim root.seqs c.as_slice.result.now c.in_ok-found.field-0 c.as_slice.ensures
    c.in_ok-found.ensures (shaped types root shape).newest in
    sym (root_past types aim root (sym c.is_met.ensures ∙ c.if-is_met.false)
    ∙ ap (λ o. option_or o (find (looks_for aim) (rows_in_order (child_types types 0) (orders types root.children))))
    (sym found ∙ ap (option_map occurrence_of) c.in-Some.is))

pub returns : goal.returns
returns c shape =
    let types = c.args.segments.now in
    let aim = aim_of c.args.aim in
    let root = c.args.root.now in
    let parts = shaped types root shape in
    let none = seq_answer types aim root.seqs c.as_slice.result.now c.in_ok-found.field-0 c.as_slice.ensures
    c.in_ok-found.ensures parts.newest in
    let rest = rows_answer types aim root.children c.as_slice-2.result.now c.in_rows.result c.as_slice-2.ensures
    c.in_rows.ensures parts.rows in
    if_ok_by _ _ c.in_rows.result (λ r is. is ∙ sym (root_past types aim root (sym c.is_met.ensures ∙ c.if-is_met.false)
    ∙ ap (λ o. option_or o (find (looks_for aim) (rows_in_order (child_types types 0) (orders types root.children))))
    (sym none ∙ ap (option_map occurrence_of) c.in_default.is))) rest
