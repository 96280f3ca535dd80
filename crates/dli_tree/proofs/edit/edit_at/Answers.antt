use Rattle.std.proofs.Common.{◌≡◌, ◌∙◌, ◌∷◌, List, ap, sym}
use Rattle.std.proofs.lemmas.List.{take_rest}
use Rattle.fp_model.specs.Order.{Step, edited}
use Rattle.dli_tree.specs.Changes.{edit_of}
use Rattle.dli_tree.specs.Paths.{step_of, steps_of}
use Rattle.dli_tree.specs.declared.path.Step.{Step as StepOf}
use Rattle.dli_tree.proofs.Editing.{first_step, no_steps}
use Rattle.dli_tree.proofs.edit.edit_at.Goals as goal
use Rattle.plain_laws.proofs.Results.{on_ok_by}

pub returns-then-is_empty-clause-ok : goal.returns-then-is_empty-clause-ok
returns-then-is_empty-clause-ok c order = no_steps c.args.segments.now (edit_of c.args.change) c.args.steps.now
    c.args.roots.now (sym c.is_empty.ensures ∙ c.if-is_empty.true)

pub returns-clause-ok : goal.returns-clause-ok
returns-clause-ok c order =
    let types = c.args.segments.now in
    let s = c.index-steps-0.result in
    on_ok_by _ _ c.edit_below.result (λ is. is
    ∙ ap (λ (rest : List StepOf). edited types c.args.roots.now (step_of s ∷ steps_of rest) (edit_of c.args.change))
    (take_rest c.args.steps.now 1)
    ∙ ap (λ (ss : List Step). edited types c.args.roots.now ss (edit_of c.args.change))
    (sym (first_step c.args.steps.now s (sym c.is_empty.ensures ∙ c.if-is_empty.false) c.index-steps-0.is)))
    (c.edit_below.ensures.ok order)
