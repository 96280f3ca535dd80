use Rattle.std.proofs.Common.{◌≡◌, ◌∙◌, ◌<◌, List, length, ap, sym, slice_set, arith}
use Rattle.fp_model.specs.declared.database.Node.{Node}
use Rattle.fp_model.specs.declared.database.Root.{Root}
use Rattle.fp_model.specs.Order.{root_key}
use Rattle.dli_tree.specs.Changes.{edit_of}
use Rattle.dli_tree.specs.Paths.{step_of, steps_of}
use Rattle.dli_tree.specs.declared.place.Place.TheVariants.{Lacks, Stands}
use Rattle.dli_tree.proofs.Editing.{anchor_end, anchor_goes, change_lacks, change_stands, placed_in, root_changed, twin_there}
use Rattle.dli_tree.proofs.Roots.{root_shape, roots_ascend, shaped}
use Rattle.dli_tree.proofs.edit.edit_below.Goals as goal
use Rattle.plain_laws.proofs.Results.{on_err_by, on_ok_by}
use Rattle.plain_laws.proofs.Places.{set_same}

pub returns-then-is_empty-clause-ok : goal.returns-then-is_empty-clause-ok
returns-then-is_empty-clause-ok c order =
    on_ok_by _ _ c.edit_root.result (λ is. is ∙ anchor_end c.args.segments.now (edit_of c.args.change)
    (step_of c.args.step.now) c.args.rest.now c.args.roots.now (sym c.is_empty.ensures ∙ c.if-is_empty.true))
    (c.edit_root.ensures.ok (roots_ascend c.args.segments.now c.args.roots.now order))

pub returns-in-Stands-clause-ok : goal.returns-in-Stands-clause-ok
returns-in-Stands-clause-ok c order =
    let types = c.args.segments.now in
    let roots = c.args.roots.now in
    let edit = edit_of c.args.change in
    let at = c.in-Stands.at in
    let r = c.item_mut.result.now in
    let up = roots_ascend types roots order in
    let key = root_key types in
    let place = placed_in key c.args.step.now.key c.as_slice-2.result.now roots c.as_slice.result.now (Stands at)
    c.as_slice.ensures c.as_slice-2.ensures c.in-Stands.ensures.place up in
    let lt : at < length roots = omega (
      arith,
      c.in-Stands.ensures.within,
      ap (λ (xs : List Root). length xs) c.as_slice.ensures,
    ) in
    let below = (shaped types r (root_shape types roots at r order lt
    (twin_there roots at r c.item_mut.ensures.value))).rows in
    on_ok_by _ _ c.edit_rows.result (λ is. ap (λ (rows : List (List Node)). slice_set roots at
    (record r { children = rows })) is
    ∙ change_stands key c.args.step.now.key (root_changed types edit (steps_of c.args.rest.now)) roots at r up place
    c.item_mut.ensures.value
    ∙ anchor_goes types edit (step_of c.args.step.now) c.args.rest.now roots
    (sym c.is_empty.ensures ∙ c.if-is_empty.false)) (c.edit_rows.ensures.ok below)

pub returns-in-Stands-clause-err : goal.returns-in-Stands-clause-err
returns-in-Stands-clause-err c =
    let r = c.item_mut.result.now in
    on_err_by _ _ c.edit_rows.result (λ is. ap (λ (rows : List (List Node)). slice_set c.args.roots.now c.in-Stands.at
    (record r { children = rows })) is
    ∙ set_same c.args.roots.now c.in-Stands.at r c.item_mut.ensures.value) c.edit_rows.ensures.err

pub returns-in-Lacks-clause-ok : goal.returns-in-Lacks-clause-ok
returns-in-Lacks-clause-ok c order =
    let types = c.args.segments.now in
    let roots = c.args.roots.now in
    let edit = edit_of c.args.change in
    let up = roots_ascend types roots order in
    let key = root_key types in
    let place = placed_in key c.args.step.now.key c.as_slice-2.result.now roots c.as_slice.result.now
    (Lacks c.in-Lacks.field-0) c.as_slice.ensures c.as_slice-2.ensures c.in-Lacks.ensures.place up in
    change_lacks key c.args.step.now.key (root_changed types edit (steps_of c.args.rest.now)) roots c.in-Lacks.field-0
    up place
    ∙ anchor_goes types edit (step_of c.args.step.now) c.args.rest.now roots
    (sym c.is_empty.ensures ∙ c.if-is_empty.false)
