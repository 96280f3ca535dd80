use Rattle.std.proofs.Common.{◌≡◌, ◌∷◌, Some, None, true, false, refl, sym, ◌∙◌, ap, arith}
use Rattle.ci_pool.specs.inside.Changes.{first_by, may_pay}
use Rattle.ci_pool.specs.Trees.{below}
use Rattle.ci_pool.proofs.Lists.{first_right, first_found, none_to_pay, none_sealed}
use Rattle.std.specs.Prelude.{option_copied}
use Rattle.ci_pool.specs.declared.tree.Fork.{Fork}
use Rattle.ci_pool.proofs.Forks.{at_fork, none_copied}
use Rattle.ci_pool.proofs.tree.Cells.+first_to_pay.Goals as goal
use Rattle.ci_pool.proofs.tree.Cells.+first_to_pay.Goals.{then-count-deref-via-then-count-deref, then-count-deref-via-else-count-deref+then-sealed-deref}

pub returns-then-count-deref : goal.returns-then-count-deref
returns-then-count-deref t c =
    let f = at_fork c.self.view_is c.self.invariant c.in-Some.is in
    let cells = below c.in-Some.fork.value in
    let none : first_by (may_pay c.args.count c.args.sealed) cells ≡ None = elim c.then-count-deref.branch [
      | then-count-deref-via-then-count-deref w ↦ none_to_pay c.args.count c.args.sealed cells
          (omega (
            arith,
            w.if-count-deref.true,
            ap (λ m. m.oldest) f.marks,
            ap
                (λ (k : Fork). k.marks.oldest) c.deref.ensures,
          ))
      | then-count-deref-via-else-count-deref+then-sealed-deref w ↦ none_sealed c.args.count c.args.sealed cells
          (omega (
            arith,
            w.if-sealed-deref.true,
            ap (λ m. m.newest) f.marks,
            ap
                (λ (k : Fork). k.marks.newest) w.deref-else-count-deref.ensures,
          ))
    ] in
    sym (ap (first_by (may_pay c.args.count c.args.sealed)) f.is ∙ none)

pub returns-in_default : goal.returns-in_default
returns-in_default t c =
    let f = at_fork c.self.view_is c.self.invariant c.in-Some.is in
    let fork = c.in-Some.fork.value in
    let some : option_copied c.first_to_pay.result ≡ None → ⊥ = none_copied _ c.in_default.not-None in
    first_found (may_pay c.args.count c.args.sealed) fork.before (fork.cell ∷ fork.behind) _
    (c.first_to_pay.ensures ∙ ap (λ (k : Fork). first_by (may_pay c.args.count c.args.sealed) k.before)
    c.deref-in-Some.ensures) some
    ∙ ap (first_by (may_pay c.args.count c.args.sealed)) (sym f.is)

pub returns-then-may_pay : goal.returns-then-may_pay
returns-then-may_pay t c =
    let f = at_fork c.self.view_is c.self.invariant c.in-Some.is in
    let fork = c.in-Some.fork.value in
    let none : first_by (may_pay c.args.count c.args.sealed) fork.before ≡ None =
    sym (c.first_to_pay.ensures ∙ ap (λ (k : Fork). first_by (may_pay c.args.count c.args.sealed) k.before)
    c.deref-in-Some.ensures) ∙ ap option_copied c.in-None-first_to_pay.is in
    let this : may_pay c.args.count c.args.sealed fork.cell ≡ true = cc in
    let shown : c.deref-then-may_pay.result.now.cell ≡ fork.cell =
    ap (λ (k : Fork). k.cell) c.deref-then-may_pay.ensures in
    ap Some shown
    ∙ sym (ap (first_by (may_pay c.args.count c.args.sealed)) f.is
    ∙ first_right (may_pay c.args.count c.args.sealed) fork.before (fork.cell ∷ fork.behind) none ∙ (rw this refl))

pub returns-else-may_pay : goal.returns-else-may_pay
returns-else-may_pay t c =
    let f = at_fork c.self.view_is c.self.invariant c.in-Some.is in
    let fork = c.in-Some.fork.value in
    let none : first_by (may_pay c.args.count c.args.sealed) fork.before ≡ None =
    sym (c.first_to_pay.ensures ∙ ap (λ (k : Fork). first_by (may_pay c.args.count c.args.sealed) k.before)
    c.deref-in-Some.ensures) ∙ ap option_copied c.in-None-first_to_pay.is in
    let this : may_pay c.args.count c.args.sealed fork.cell ≡ false = cc in
    c.first_to_pay-in-Some.ensures ∙ ap (λ (k : Fork). first_by (may_pay c.args.count c.args.sealed) k.behind)
    c.deref-in-Some-3.ensures
    ∙ sym (ap (first_by (may_pay c.args.count c.args.sealed)) f.is
    ∙ first_right (may_pay c.args.count c.args.sealed) fork.before (fork.cell ∷ fork.behind) none ∙ (rw this refl))
