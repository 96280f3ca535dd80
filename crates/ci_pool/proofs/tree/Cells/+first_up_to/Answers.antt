use Rattle.std.proofs.Common.{◌≡◌, ◌∷◌, Some, None, true, false, refl, sym, ◌∙◌, ap, arith}
use Rattle.ci_pool.specs.inside.Changes.{first_by, waits_up_to}
use Rattle.ci_pool.specs.Trees.{below}
use Rattle.ci_pool.proofs.Lists.{first_right, first_found, none_newest}
use Rattle.std.specs.Prelude.{option_copied}
use Rattle.ci_pool.specs.declared.tree.Fork.{Fork}
use Rattle.ci_pool.proofs.Forks.{at_fork, none_copied}
use Rattle.ci_pool.proofs.tree.Cells.+first_up_to.Goals as goal

pub returns-then-newest-deref : goal.returns-then-newest-deref
returns-then-newest-deref t c =
    let f = at_fork c.self.view_is c.self.invariant c.in-Some.is in
    let cells = below c.in-Some.fork.value in
    let none : first_by (waits_up_to c.args.newest) cells ≡ None = none_newest c.args.newest cells
    (omega (
      arith,
      c.if-newest-deref.true,
      ap (λ m. m.newest) f.marks,
      ap
          (λ (k : Fork). k.marks.newest) c.deref.ensures,
    )) in
    sym (ap (first_by (waits_up_to c.args.newest)) f.is ∙ none)

pub returns-in_default : goal.returns-in_default
returns-in_default t c =
    let f = at_fork c.self.view_is c.self.invariant c.in-Some.is in
    let fork = c.in-Some.fork.value in
    let some : option_copied c.first_up_to.result ≡ None → ⊥ = none_copied _ c.in_default.not-None in
    first_found (waits_up_to c.args.newest) fork.before (fork.cell ∷ fork.behind) _
    (c.first_up_to.ensures
    ∙ ap (λ (k : Fork). first_by (waits_up_to c.args.newest) k.before) c.deref-in-Some.ensures) some
    ∙ ap (first_by (waits_up_to c.args.newest)) (sym f.is)

pub returns-then-waits_up_to : goal.returns-then-waits_up_to
returns-then-waits_up_to t c =
    let f = at_fork c.self.view_is c.self.invariant c.in-Some.is in
    let fork = c.in-Some.fork.value in
    let none : first_by (waits_up_to c.args.newest) fork.before ≡ None =
    sym (c.first_up_to.ensures
    ∙ ap (λ (k : Fork). first_by (waits_up_to c.args.newest) k.before) c.deref-in-Some.ensures)
    ∙ ap option_copied c.in-None-first_up_to.is in
    let this : waits_up_to c.args.newest fork.cell ≡ true = cc in
    let shown : c.deref-then-waits_up_to.result.now.cell ≡ fork.cell =
    ap (λ (k : Fork). k.cell) c.deref-then-waits_up_to.ensures in
    ap Some shown
    ∙ sym (ap (first_by (waits_up_to c.args.newest)) f.is ∙ first_right (waits_up_to c.args.newest) fork.before
    (fork.cell ∷ fork.behind) none ∙ (rw this refl))

pub returns-else-waits_up_to : goal.returns-else-waits_up_to
returns-else-waits_up_to t c =
    let f = at_fork c.self.view_is c.self.invariant c.in-Some.is in
    let fork = c.in-Some.fork.value in
    let none : first_by (waits_up_to c.args.newest) fork.before ≡ None =
    sym (c.first_up_to.ensures
    ∙ ap (λ (k : Fork). first_by (waits_up_to c.args.newest) k.before) c.deref-in-Some.ensures)
    ∙ ap option_copied c.in-None-first_up_to.is in
    let this : waits_up_to c.args.newest fork.cell ≡ false = cc in
    c.first_up_to-in-Some.ensures
    ∙ ap (λ (k : Fork). first_by (waits_up_to c.args.newest) k.behind) c.deref-in-Some-3.ensures
    ∙ sym (ap (first_by (waits_up_to c.args.newest)) f.is ∙ first_right (waits_up_to c.args.newest) fork.before
    (fork.cell ∷ fork.behind) none ∙ (rw this refl))
