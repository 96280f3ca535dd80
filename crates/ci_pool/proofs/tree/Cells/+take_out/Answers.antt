use Rattle.std.proofs.Common.{◌≡◌, ◌∷◌, ◌++◌, Some, true, false, sym, subst, ◌∙◌, ap}
use Rattle.ci_pool.specs.declared.tree.Fork.{Fork}
use Rattle.ci_pool.specs.Cells.{cell_at, comes_before, is_of}
use Rattle.ci_pool.specs.Changes.{IsAscending}
use Rattle.ci_pool.specs.inside.Changes.{without}
use Rattle.ci_pool.proofs.Lists.{ascending_without, without_here, without_behind, without_before, found_here, found_behind, found_before, behind_else}
use Rattle.ci_pool.proofs.Forks.{at_fork}
use Rattle.ci_pool.proofs.tree.Cells.+take_out.Goals as goal

pub joined-requires : goal.joined-requires
joined-requires t c =
    let f = at_fork c.self.view_is c.self.invariant c.in-Some.is in
    let fork = c.in-Some.fork.value in
    let here : is_of c.args.set c.args.ci fork.cell ≡ true = cc in
    let b : c.replace-before.result ≡ fork.before = cc in
    let e : c.replace-behind.result ≡ fork.behind = cc in
    rw (b, e)
    (subst IsAscending (without_here c.args.set c.args.ci fork.before fork.cell fork.behind f.ascending here)
    (ascending_without c.args.set c.args.ci (fork.before ++ fork.cell ∷ fork.behind) f.ascending))

pub close-requires : goal.close-requires
close-requires t c =
    let f = at_fork c.self.view_is c.self.invariant c.in-Some.is in
    let fork = c.in-Some.fork.value in
    let here : comes_before fork.cell.set fork.cell.ci c.args.set c.args.ci ≡ true = cc in
    let same : c.replace-behind-then-comes_before.result ≡ fork.behind = cc in
    let b : c.deref_mut-then-comes_before-2.result.now.before ≡ fork.before =
    ap (λ (q : Fork). q.before) c.deref_mut-then-comes_before-2.ensures.value
    ∙ ap (λ (q : Fork). q.before) c.deref_mut-then-comes_before.ensures.value in
    let k : c.deref_mut-then-comes_before-2.result.now.cell ≡ fork.cell =
    ap (λ (q : Fork). q.cell) c.deref_mut-then-comes_before-2.ensures.value
    ∙ ap (λ (q : Fork). q.cell) c.deref_mut-then-comes_before.ensures.value in
    let r : c.take_out-behind.result.0 ≡ without c.args.set c.args.ci fork.behind = c.take_out-behind.ensures.left
    ∙ ap (without c.args.set c.args.ci) same in
    rw (b, k, r)
    (subst IsAscending (without_behind c.args.set c.args.ci fork.before fork.cell fork.behind f.ascending here)
    (ascending_without c.args.set c.args.ci (fork.before ++ fork.cell ∷ fork.behind) f.ascending))

pub close-requires-else-comes_before : goal.close-requires-else-comes_before
close-requires-else-comes_before t c =
    let f = at_fork c.self.view_is c.self.invariant c.in-Some.is in
    let fork = c.in-Some.fork.value in
    let other : is_of c.args.set c.args.ci fork.cell ≡ false = cc in
    let later : comes_before fork.cell.set fork.cell.ci c.args.set c.args.ci ≡ false = cc in
    let here = behind_else fork.cell c.args.set c.args.ci other later in
    let same : c.replace-before-else-comes_before.result ≡ fork.before = cc in
    let b : c.deref_mut-else-comes_before-2.result.now.behind ≡ fork.behind =
    ap (λ (q : Fork). q.behind) c.deref_mut-else-comes_before-2.ensures.value
    ∙ ap (λ (q : Fork). q.behind) c.deref_mut-else-comes_before.ensures.value in
    let k : c.deref_mut-else-comes_before-2.result.now.cell ≡ fork.cell =
    ap (λ (q : Fork). q.cell) c.deref_mut-else-comes_before-2.ensures.value
    ∙ ap (λ (q : Fork). q.cell) c.deref_mut-else-comes_before.ensures.value in
    let r : c.take_out-before.result.0 ≡ without c.args.set c.args.ci fork.before = c.take_out-before.ensures.left
    ∙ ap (without c.args.set c.args.ci) same in
    rw (b, k, r)
    (subst IsAscending (without_before c.args.set c.args.ci fork.before fork.cell fork.behind f.ascending here)
    (ascending_without c.args.set c.args.ci (fork.before ++ fork.cell ∷ fork.behind) f.ascending))

pub returns-then-is_of-clause-left : goal.returns-then-is_of-clause-left
returns-then-is_of-clause-left t c =
    let f = at_fork c.self.view_is c.self.invariant c.in-Some.is in
    let fork = c.in-Some.fork.value in
    let here : is_of c.args.set c.args.ci fork.cell ≡ true = cc in
    let b : c.replace-before.result ≡ fork.before = cc in
    let e : c.replace-behind.result ≡ fork.behind = cc in
    c.joined.ensures
    ∙ (rw (b, e)
    (sym (ap (without c.args.set c.args.ci) f.is
    ∙ without_here c.args.set c.args.ci fork.before fork.cell fork.behind f.ascending here)))

pub returns-then-is_of-clause-taken : goal.returns-then-is_of-clause-taken
returns-then-is_of-clause-taken t c =
    let f = at_fork c.self.view_is c.self.invariant c.in-Some.is in
    let fork = c.in-Some.fork.value in
    let here : is_of c.args.set c.args.ci fork.cell ≡ true = cc in
    let k : c.deref_mut-then-is_of.result.now.cell ≡ fork.cell = cc in
    ap Some k
    ∙ sym (ap (cell_at c.args.set c.args.ci) f.is
    ∙ found_here c.args.set c.args.ci fork.before fork.cell fork.behind f.ascending here)

pub returns-then-comes_before-clause-left : goal.returns-then-comes_before-clause-left
returns-then-comes_before-clause-left t c =
    let f = at_fork c.self.view_is c.self.invariant c.in-Some.is in
    let fork = c.in-Some.fork.value in
    let here : comes_before fork.cell.set fork.cell.ci c.args.set c.args.ci ≡ true = cc in
    let same : c.replace-behind-then-comes_before.result ≡ fork.behind = cc in
    let b : c.deref_mut-then-comes_before-2.result.now.before ≡ fork.before =
    ap (λ (q : Fork). q.before) c.deref_mut-then-comes_before-2.ensures.value
    ∙ ap (λ (q : Fork). q.before) c.deref_mut-then-comes_before.ensures.value in
    let k : c.deref_mut-then-comes_before-2.result.now.cell ≡ fork.cell =
    ap (λ (q : Fork). q.cell) c.deref_mut-then-comes_before-2.ensures.value
    ∙ ap (λ (q : Fork). q.cell) c.deref_mut-then-comes_before.ensures.value in
    let r : c.take_out-behind.result.0 ≡ without c.args.set c.args.ci fork.behind = c.take_out-behind.ensures.left
    ∙ ap (without c.args.set c.args.ci) same in
    c.close.ensures
    ∙ (rw (b, k, r)
    (sym (ap (without c.args.set c.args.ci) f.is
    ∙ without_behind c.args.set c.args.ci fork.before fork.cell fork.behind f.ascending here)))

pub returns-then-comes_before-clause-taken : goal.returns-then-comes_before-clause-taken
returns-then-comes_before-clause-taken t c =
    let f = at_fork c.self.view_is c.self.invariant c.in-Some.is in
    let fork = c.in-Some.fork.value in
    let here : comes_before fork.cell.set fork.cell.ci c.args.set c.args.ci ≡ true = cc in
    let same : c.replace-behind-then-comes_before.result ≡ fork.behind = cc in
    c.take_out-behind.ensures.taken ∙ ap (cell_at c.args.set c.args.ci) same
    ∙ sym (ap (cell_at c.args.set c.args.ci) f.is
    ∙ found_behind c.args.set c.args.ci fork.before fork.cell fork.behind f.ascending here)

pub returns-else-comes_before-clause-left : goal.returns-else-comes_before-clause-left
returns-else-comes_before-clause-left t c =
    let f = at_fork c.self.view_is c.self.invariant c.in-Some.is in
    let fork = c.in-Some.fork.value in
    let other : is_of c.args.set c.args.ci fork.cell ≡ false = cc in
    let later : comes_before fork.cell.set fork.cell.ci c.args.set c.args.ci ≡ false = cc in
    let here = behind_else fork.cell c.args.set c.args.ci other later in
    let same : c.replace-before-else-comes_before.result ≡ fork.before = cc in
    let b : c.deref_mut-else-comes_before-2.result.now.behind ≡ fork.behind =
    ap (λ (q : Fork). q.behind) c.deref_mut-else-comes_before-2.ensures.value
    ∙ ap (λ (q : Fork). q.behind) c.deref_mut-else-comes_before.ensures.value in
    let k : c.deref_mut-else-comes_before-2.result.now.cell ≡ fork.cell =
    ap (λ (q : Fork). q.cell) c.deref_mut-else-comes_before-2.ensures.value
    ∙ ap (λ (q : Fork). q.cell) c.deref_mut-else-comes_before.ensures.value in
    let r : c.take_out-before.result.0 ≡ without c.args.set c.args.ci fork.before = c.take_out-before.ensures.left
    ∙ ap (without c.args.set c.args.ci) same in
    c.close-else-comes_before.ensures
    ∙ (rw (b, k, r)
    (sym (ap (without c.args.set c.args.ci) f.is
    ∙ without_before c.args.set c.args.ci fork.before fork.cell fork.behind f.ascending here)))

pub returns-else-comes_before-clause-taken : goal.returns-else-comes_before-clause-taken
returns-else-comes_before-clause-taken t c =
    let f = at_fork c.self.view_is c.self.invariant c.in-Some.is in
    let fork = c.in-Some.fork.value in
    let other : is_of c.args.set c.args.ci fork.cell ≡ false = cc in
    let later : comes_before fork.cell.set fork.cell.ci c.args.set c.args.ci ≡ false = cc in
    let here = behind_else fork.cell c.args.set c.args.ci other later in
    let same : c.replace-before-else-comes_before.result ≡ fork.before = cc in
    c.take_out-before.ensures.taken ∙ ap (cell_at c.args.set c.args.ci) same
    ∙ sym (ap (cell_at c.args.set c.args.ci) f.is
    ∙ found_before c.args.set c.args.ci fork.before fork.cell fork.behind f.ascending here)
