use Rattle.std.proofs.Common.{◌≡◌, ◌∙◌, ap, sym, subst, Some, List, true, slice_get, slice_set}
use Rattle.fp_model.specs.Order.{edited}
use Rattle.dli_tree.specs.Changes.{edit_of}
use Rattle.dli_tree.specs.InOrder.{are_in_order}
use Rattle.dli_tree.specs.Paths.{steps_of}
use Rattle.dedb_calls.specs.Anchors.{is_anchor_of}
use Rattle.dedb_calls.specs.inside.Anchors.{IsEdited}
use Rattle.dedb_calls.specs.declared.anchors.HeldAnchor.{HeldAnchor}
use Rattle.dedb_calls.proofs.AnchorLemmas.{edited_there, found_there, none_there, not_held, set_itself}
use Rattle.dedb_calls.proofs.anchors.edit.Goals as goal
use Rattle.plain_laws.proofs.Results.{at_err}
use Rattle.std.proofs.lemmas.Option.{same_Some}

pub returns-then-not-is_there-clause-ok : goal.returns-then-not-is_there-clause-ok
returns-then-not-is_there-clause-ok c up a at =
    let lacking = none_there c.args.held.now c.as_slice-items.result.now c.as_slice-items.ensures c.args.dedb
    c.args.anchor
    c.place_of-at.result c.place_of-at.ensures.place c.is_there.result c.is_there.ensures.there c.is_there.ensures.none
    c.if-not-is_there.true up in
    absurd (not_held c.args.held.now c.args.dedb c.args.anchor a at lacking)

pub returns-in_err-edit_one-clause-err : goal.returns-in_err-edit_one-clause-err
returns-in_err-edit_one-clause-err c =
    at_err c.from_residual.result _
    (ap (λ (x : HeldAnchor). slice_set c.args.held.now c.place_of-at.result x) c.in_err-edit_one.ensures.err
    ∙ set_itself c.args.held.now c.place_of-at.result c.item_mut.result.now c.item_mut.ensures.value)

pub returns-clause-ok : goal.returns-clause-ok
returns-clause-ok c up a at good =
    let f = found_there c.args.held.now c.as_slice-items.result.now c.as_slice-items.ensures c.args.dedb c.args.anchor
    c.place_of-at.result c.place_of-at.ensures.place c.is_there.result c.is_there.ensures.there c.is_there.ensures.none
    c.if-not-is_there.false up in
    let x : HeldAnchor = c.item_mut.result.now in
    let here : slice_get c.args.held.now c.place_of-at.result ≡ Some f.0 =
    subst (λ (zs : List HeldAnchor). slice_get zs c.place_of-at.result ≡ Some f.0) c.as_slice-items.ensures f.1 in
    let x_is : x ≡ f.0 = same_Some x f.0 (sym c.item_mut.ensures.value ∙ here) in
    let a_is : f.0 ≡ a = same_Some f.0 a (sym f.3 ∙ at) in
    let same : x ≡ a = x_is ∙ a_is in
    let order : are_in_order c.args.segments.now x.roots ≡ true =
    subst (λ (z : HeldAnchor). are_in_order c.args.segments.now z.roots ≡ true) (sym same) good in
    subst (λ (z : HeldAnchor). IsEdited c.args.dedb c.args.anchor
    (edited c.args.segments.now z.roots (steps_of c.args.steps.now) (edit_of c.args.change)) c.args.held.now
    (slice_set c.args.held.now c.place_of-at.result c.edit_one.new.held)) same
    (edited_there c.args.held.now c.as_slice-items.result.now c.as_slice-items.ensures c.args.dedb c.args.anchor
    c.place_of-at.result c.place_of-at.ensures.place c.is_there.result c.is_there.ensures.there c.is_there.ensures.none
    x (edited c.args.segments.now x.roots (steps_of c.args.steps.now) (edit_of c.args.change))
    (slice_set c.args.held.now c.place_of-at.result c.edit_one.new.held) up
    (subst (λ (z : HeldAnchor). slice_get c.as_slice-items.result.now c.place_of-at.result ≡ Some z) (sym x_is) f.1)
    (subst (λ (z : HeldAnchor). is_anchor_of c.args.dedb c.args.anchor z ≡ true) (sym x_is) f.2)
    (ap (λ (z : HeldAnchor). slice_set c.args.held.now c.place_of-at.result z)
    (c.in_ok-edit_one.ensures.ok order)))
