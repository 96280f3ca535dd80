use Rattle.std.proofs.Common.{◌≡◌, ◌∙◌, List, sym, subst, true}
use Rattle.std.specs.Prelude.{option_map}
use Rattle.std.specs.Option.{option_copied}
use Rattle.fp_model.specs.declared.database.Root.{Root}
use Rattle.fp_model.specs.declared.definitions.SegDef.{SegDef}
use Rattle.dli_tree.specs.InOrder.{are_in_order}
use Rattle.dli_tree.specs.Paths.{steps_of}
use Rattle.dli_tree.proofs.Roots.{none_answer, whole_answer}
use Rattle.dli_tree.proofs.first.first_after.Goals as goal
use Rattle.plain_laws.proofs.Results.{if_ok_by}

pub returns-then-not-can_be_met : goal.returns-then-not-can_be_met
returns-then-not-can_be_met c order =
    none_answer c.args.segments.now c.as_slice-segments.result.now c.args.roots.now c.args.ssas.now
    c.as_slice-ssas.result.now (option_copied c.args.position) (option_copied c.args.within)
    c.as_slice-segments.ensures c.as_slice-ssas.ensures c.requires.places
    (sym c.can_be_met.ensures ∙ c.if-not-can_be_met.true)

pub returns : goal.returns
returns c order =
    let types = c.args.segments.now in
    let more = c.as_slice-segments.result.now in
    let others = c.as_slice.result.now in
    let first : are_in_order more c.args.roots.now ≡ true =
    subst (λ (t : List SegDef). are_in_order t c.args.roots.now ≡ true) (sym c.as_slice-segments.ensures) order in
    let in_order : are_in_order more others ≡ true =
    subst (λ (r : List Root). are_in_order more r ≡ true) (sym c.as_slice.ensures) first in
    if_ok_by _ _ c.in_roots.result (λ r is. is ∙ whole_answer types more c.args.roots.now others c.args.ssas.now
    c.as_slice-ssas.result.now (option_copied c.args.position) (option_copied c.args.within)
    (option_map steps_of (option_copied c.steps_of.result)) (option_map steps_of (option_copied c.steps_of-2.result))
    c.as_slice-segments.ensures c.as_slice.ensures c.as_slice-ssas.ensures c.steps_of.ensures c.steps_of-2.ensures
    c.requires.places
    (sym c.can_be_met.ensures ∙ c.if-not-can_be_met.false)) (c.in_roots.ensures in_order)
