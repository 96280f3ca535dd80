use Rattle.std.proofs.Common.{◌∙◌, ◌≤◌, [], List, length, slice_get, sym, ap, not, rules, arith}
use Rattle.std.specs.Prelude.{◌==◌, ◌&&◌}
use Rattle.std.specs.Option.{option_copied, option_map_or}
use Rattle.std.proofs.lemmas.Fn.{filter_same}
use Rattle.fp_model.specs.Order.{Place, Step}
use Rattle.fp_model.specs.Texts.{same_text}
use Rattle.dli_tree.specs.declared.path.Step.{Step as StepOf}
use Rattle.dedb_calls.proofs.ArgumentLemmas.{first_step, first_there, steps_long}
use Rattle.dedb_calls.proofs.EditLemmas.{none_goes, those_go}
use Rattle.dedb_calls.proofs.work.drop_below.Goals as goal
use Rattle.std.proofs.lemmas.Option.{same_Some}

pub returns-then-steps-ne1 : goal.returns-then-steps-ne1
returns-then-steps-ne1 c def at its =
    let same = same_Some c.in-Some.place.now at (sym (ap option_copied c.in-Some.is) ∙ its) in
    let path = c.steps-steps.ensures ∙ ap (λ (p : Place). p.path) same in
    let long = ap length (sym path) ∙ steps_long c.steps-steps.result.now in
    none_goes def c.args.dedb at c.args.inserts.now.items (λ e. c.if-steps-ne1.true (sym long ∙ e))

pub returns : goal.returns
returns c def at its =
    let same = same_Some c.in-Some.place.now at (sym (ap option_copied c.in-Some.is) ∙ its) in
    let path = c.steps-steps.ensures ∙ ap (λ (p : Place). p.path) same in
    let long = ap length (sym path) ∙ steps_long c.steps-steps.result.now in
    let least : 1 ≤ length c.steps-steps.result.now = omega (arith, c.if-steps-ne1.false) in
    let at_zero = first_step c.steps-steps.result.now c.index-steps-0.result
    (first_there c.steps-steps.result.now c.index-steps-0.result least c.index-steps-0.is) in
    let key = c.as_slice-key.ensures ∙ ap (λ (s : StepOf). s.key) (sym c.index-steps-0.is)
    ∙ ap (λ o. option_map_or (λ (s : Step). s.key) o []) (sym at_zero ∙ ap (λ (p : List Step). slice_get p 0) path) in
    filter_same _ (λ i. not (i.dedb == c.args.dedb && i.anchor == c.anchor-anchor.result
    && same_text i.key c.as_slice-key.result.now)) _ (λ x b f r. search rules) _ _ c.retain.ensures.filtered
    ∙ those_go def c.args.dedb at c.args.inserts.now.items c.anchor-anchor.result c.as_slice-key.result.now
    (long ∙ c.if-steps-ne1.false) (c.anchor-anchor.ensures ∙ ap (λ (p : Place). p.anchor) same) key
