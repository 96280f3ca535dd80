use Rattle.std.proofs.Common.{◌≡◌, ℕ, ◌-◌, [], ◌∷◌, ◌++◌, ◌∙◌, sym, ap, subst, refl, take, get_or, arith}
use Rattle.fp_model.specs.Texts.{trimmed}
use Rattle.command_tasks.proofs.texts.without_blanks.Goals as goal
use Rattle.command_tasks.proofs.texts.without_blanks.Goals.{then-loop-end-test+else-text-end-eq32, else-loop-end-test}
use Rattle.plain_laws.proofs.Lists.{take-last}
use Rattle.model_laws.proofs.Texts.{trimmed-blank, trimmed-other}

pub loop-end-preserved : goal.loop-end-preserved
loop-end-preserved c =
    let t = c.args.text.now in
    let n = c.loop-end.end in (
      omega arith,
      sym (trimmed-blank (take (n - 1) t))
          ∙ ap (λ (b : ℕ). trimmed (take (n - 1) t ++ b ∷ [])) (sym c.if-text-end-eq32.true)
          ∙ ap trimmed (sym (take-last t n (omega arith) (omega arith)))
          ∙ c.loop-end.invariant.1,
    )

pub returns : goal.returns
returns c =
    let t = c.args.text.now in
    let n = c.loop-end.end in
    elim c.loop-end-test.branch [
      | then-loop-end-test+else-text-end-eq32 w ↦
          take-last t n (omega arith) (omega arith)
          ∙ sym (trimmed-other (take (n - 1) t) (get_or t (n - 1) 0) w.if-text-end-eq32.false)
          ∙ ap trimmed (sym (take-last t n (omega arith) (omega arith)))
          ∙ c.loop-end.invariant.1
      | else-loop-end-test w ↦
          (let none : n ≡ 0 = omega arith in subst (λ (m : ℕ). take m t ≡ trimmed (take m t)) (sym none) refl) ∙
          c.loop-end.invariant.1
    ]
