use Rattle.std.proofs.Common.{◌≡◌, ℕ, ◌∷◌, ◌++◌, None, true, false, refl, sym, subst, ◌∙◌, ap, arith}
use Rattle.std.specs.Prelude.{IsTrue}
use Rattle.ci_pool.specs.declared.tree.Fork.{Fork}
use Rattle.ci_pool.specs.Cells.{cell_at, comes_before}
use Rattle.ci_pool.specs.Changes.{IsAscending, AllCells}
use Rattle.ci_pool.specs.inside.Changes.{with_cell}
use Rattle.ci_pool.proofs.Lists.{none_right, none_left, none_this, ascending_with, ascending_join, ascending_front, ascending_back, with_between, with_behind, with_before}
use Rattle.ci_pool.proofs.Forks.{at_fork}
use Rattle.ci_pool.proofs.tree.Cells.+put_in.Goals as goal

pub put_in-requires : goal.put_in-requires
put_in-requires t c =
    let f = at_fork c.self.view_is c.self.invariant c.in-Some.is in
    let fork = c.in-Some.fork.value in
    let new = c.args.new.value.cell in
    let same : c.replace-behind.result ≡ fork.behind = cc in
    let none : cell_at new.set new.ci (fork.before ++ fork.cell ∷ fork.behind) ≡ None = ap (cell_at new.set new.ci)
    (sym f.is) ∙ c.requires in
    let right = none_right new.set new.ci fork.before (fork.cell ∷ fork.behind) none in (
      rw same (omega (arith, f.behind_shorter)),
      rw same
          (rw (none_this new.set new.ci fork.cell fork.behind right) at right),
    )

pub put_in-requires-else-comes_before : goal.put_in-requires-else-comes_before
put_in-requires-else-comes_before t c =
    let f = at_fork c.self.view_is c.self.invariant c.in-Some.is in
    let fork = c.in-Some.fork.value in
    let new = c.args.new.value.cell in
    let same : c.replace-before.result ≡ fork.before = cc in
    let none : cell_at new.set new.ci (fork.before ++ fork.cell ∷ fork.behind) ≡ None = ap (cell_at new.set new.ci)
    (sym f.is) ∙ c.requires in (
      rw same (omega (arith, f.before_shorter)),
      rw same
          (none_left new.set new.ci fork.before (fork.cell ∷ fork.behind) none),
    )

pub close-requires-then-comes_before : goal.close-requires-then-comes_before
close-requires-then-comes_before t c =
    let f = at_fork c.self.view_is c.self.invariant c.in-Some.is in
    let fork = c.in-Some.fork.value in
    let new = c.args.new.value.cell in
    let none : cell_at new.set new.ci (fork.before ++ fork.cell ∷ fork.behind) ≡ None = ap (cell_at new.set new.ci)
    (sym f.is) ∙ c.requires in
    let here : comes_before fork.cell.set fork.cell.ci new.set new.ci ≡ true = cc in
    let same : c.replace-behind.result ≡ fork.behind = cc in
    let b : c.deref_mut-then-comes_before-2.result.now.before ≡ fork.before =
    ap (λ (q : Fork). q.before) c.deref_mut-then-comes_before-2.ensures.value
    ∙ ap (λ (q : Fork). q.before) c.deref_mut-then-comes_before.ensures.value in
    let k : c.deref_mut-then-comes_before-2.result.now.cell ≡ fork.cell =
    ap (λ (q : Fork). q.cell) c.deref_mut-then-comes_before-2.ensures.value
    ∙ ap (λ (q : Fork). q.cell) c.deref_mut-then-comes_before.ensures.value in
    let r : c.put_in.result ≡ with_cell new fork.behind = c.put_in.ensures ∙ ap (with_cell new) same in
    rw (b, k, r)
    (subst IsAscending (with_behind new fork.before fork.cell fork.behind f.ascending here)
    (ascending_with new (fork.before ++ fork.cell ∷ fork.behind) f.ascending none))

pub close-requires-else-comes_before : goal.close-requires-else-comes_before
close-requires-else-comes_before t c =
    let f = at_fork c.self.view_is c.self.invariant c.in-Some.is in
    let fork = c.in-Some.fork.value in
    let new = c.args.new.value.cell in
    let none : cell_at new.set new.ci (fork.before ++ fork.cell ∷ fork.behind) ≡ None = ap (cell_at new.set new.ci)
    (sym f.is) ∙ c.requires in
    let not : comes_before fork.cell.set fork.cell.ci new.set new.ci ≡ false = cc in
    let same : c.replace-before.result ≡ fork.before = cc in
    let b : c.deref_mut-else-comes_before-2.result.now.behind ≡ fork.behind =
    ap (λ (q : Fork). q.behind) c.deref_mut-else-comes_before-2.ensures.value
    ∙ ap (λ (q : Fork). q.behind) c.deref_mut-else-comes_before.ensures.value in
    let k : c.deref_mut-else-comes_before-2.result.now.cell ≡ fork.cell =
    ap (λ (q : Fork). q.cell) c.deref_mut-else-comes_before-2.ensures.value
    ∙ ap (λ (q : Fork). q.cell) c.deref_mut-else-comes_before.ensures.value in
    let r : c.put_in-else-comes_before.result ≡ with_cell new fork.before = c.put_in-else-comes_before.ensures
    ∙ ap (with_cell new) same in
    rw (b, k, r)
    (subst IsAscending (with_before new fork.before fork.cell fork.behind not)
    (ascending_with new (fork.before ++ fork.cell ∷ fork.behind) f.ascending none))

pub close-requires-then-rank : goal.close-requires-then-rank
close-requires-then-rank t c =
    let f = at_fork c.self.view_is c.self.invariant c.in-Some.is in
    let fork = c.in-Some.fork.value in
    let new = c.args.new.value.cell in
    let l = c.split-before.result.0 in
    let r = c.split-before.result.1 in
    let s = c.split-before.ensures in
    let whole : IsAscending (l ++ r) = rw (s.whole) f.ascending in
    let b : c.deref_mut-then-rank-3.result.now.before ≡ l =
    ap (λ (q : Fork). q.before) c.deref_mut-then-rank-3.ensures.value in
    let k : c.deref_mut-then-rank-3.result.now.cell ≡ new =
    ap (λ (q : Fork). q.cell) c.deref_mut-then-rank-3.ensures.value
    ∙ ap (λ (q : Fork). q.cell) c.deref_mut-then-rank.ensures.value in
    rw (b, k)
    (ascending_join l new r (ascending_front l r whole)
    (subst (λ (n : ℕ). AllCells (λ b. IsTrue (comes_before b.set b.ci n new.ci)) l)
    (ap (λ (q : Fork). q.cell.set) c.deref.ensures)
    (subst (λ (n : ℕ). AllCells (λ b. IsTrue (comes_before b.set b.ci c.deref.result.now.cell.set n)) l)
    (ap (λ (q : Fork). q.cell.ci) c.deref-in-Some.ensures) s.before))
    (subst (λ (n : ℕ). AllCells (λ b. IsTrue (comes_before n new.ci b.set b.ci)) r)
    (ap (λ (q : Fork). q.cell.set) c.deref.ensures)
    (subst (λ (n : ℕ). AllCells (λ b. IsTrue (comes_before c.deref.result.now.cell.set n b.set b.ci)) r)
    (ap (λ (q : Fork). q.cell.ci) c.deref-in-Some.ensures) s.behind)) (ascending_back l r whole))

pub returns-then-rank : goal.returns-then-rank
returns-then-rank t c =
    let f = at_fork c.self.view_is c.self.invariant c.in-Some.is in
    let fork = c.in-Some.fork.value in
    let new = c.args.new.value.cell in
    let l = c.split-before.result.0 in
    let r = c.split-before.result.1 in
    let s = c.split-before.ensures in
    let b : c.deref_mut-then-rank-3.result.now.before ≡ l =
    ap (λ (q : Fork). q.before) c.deref_mut-then-rank-3.ensures.value in
    let k : c.deref_mut-then-rank-3.result.now.cell ≡ new =
    ap (λ (q : Fork). q.cell) c.deref_mut-then-rank-3.ensures.value
    ∙ ap (λ (q : Fork). q.cell) c.deref_mut-then-rank.ensures.value in
    let made : c.close-then-rank.result ≡ l ++ new ∷ r = c.close-then-rank.ensures ∙ (rw (b, k) refl) in
    made ∙ sym
    (ap (with_cell new) (f.is ∙ sym s.whole)
    ∙ with_between new l r
    (subst (λ (n : ℕ). AllCells (λ b. IsTrue (comes_before b.set b.ci n new.ci)) l)
    (ap (λ (q : Fork). q.cell.set) c.deref.ensures)
    (subst (λ (n : ℕ). AllCells (λ b. IsTrue (comes_before b.set b.ci c.deref.result.now.cell.set n)) l)
    (ap (λ (q : Fork). q.cell.ci) c.deref-in-Some.ensures) s.before))
    (subst (λ (n : ℕ). AllCells (λ b. IsTrue (comes_before n new.ci b.set b.ci)) r)
    (ap (λ (q : Fork). q.cell.set) c.deref.ensures)
    (subst (λ (n : ℕ). AllCells (λ b. IsTrue (comes_before c.deref.result.now.cell.set n b.set b.ci)) r)
    (ap (λ (q : Fork). q.cell.ci) c.deref-in-Some.ensures) s.behind)))

pub returns-then-comes_before : goal.returns-then-comes_before
returns-then-comes_before t c =
    let f = at_fork c.self.view_is c.self.invariant c.in-Some.is in
    let fork = c.in-Some.fork.value in
    let new = c.args.new.value.cell in
    let here : comes_before fork.cell.set fork.cell.ci new.set new.ci ≡ true = cc in
    let same : c.replace-behind.result ≡ fork.behind = cc in
    let b : c.deref_mut-then-comes_before-2.result.now.before ≡ fork.before =
    ap (λ (q : Fork). q.before) c.deref_mut-then-comes_before-2.ensures.value
    ∙ ap (λ (q : Fork). q.before) c.deref_mut-then-comes_before.ensures.value in
    let k : c.deref_mut-then-comes_before-2.result.now.cell ≡ fork.cell =
    ap (λ (q : Fork). q.cell) c.deref_mut-then-comes_before-2.ensures.value
    ∙ ap (λ (q : Fork). q.cell) c.deref_mut-then-comes_before.ensures.value in
    let r : c.put_in.result ≡ with_cell new fork.behind = c.put_in.ensures ∙ ap (with_cell new) same in
    c.close-then-comes_before.ensures
    ∙ (rw (b, k, r)
    (sym (ap (with_cell new) f.is ∙ with_behind new fork.before fork.cell fork.behind f.ascending here)))

pub returns-else-comes_before : goal.returns-else-comes_before
returns-else-comes_before t c =
    let f = at_fork c.self.view_is c.self.invariant c.in-Some.is in
    let fork = c.in-Some.fork.value in
    let new = c.args.new.value.cell in
    let not : comes_before fork.cell.set fork.cell.ci new.set new.ci ≡ false = cc in
    let same : c.replace-before.result ≡ fork.before = cc in
    let b : c.deref_mut-else-comes_before-2.result.now.behind ≡ fork.behind =
    ap (λ (q : Fork). q.behind) c.deref_mut-else-comes_before-2.ensures.value
    ∙ ap (λ (q : Fork). q.behind) c.deref_mut-else-comes_before.ensures.value in
    let k : c.deref_mut-else-comes_before-2.result.now.cell ≡ fork.cell =
    ap (λ (q : Fork). q.cell) c.deref_mut-else-comes_before-2.ensures.value
    ∙ ap (λ (q : Fork). q.cell) c.deref_mut-else-comes_before.ensures.value in
    let r : c.put_in-else-comes_before.result ≡ with_cell new fork.before = c.put_in-else-comes_before.ensures
    ∙ ap (with_cell new) same in
    c.close-else-comes_before.ensures
    ∙ (rw (b, k, r) (sym (ap (with_cell new) f.is ∙ with_before new fork.before fork.cell fork.behind not)))
