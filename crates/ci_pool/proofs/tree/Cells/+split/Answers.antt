use Rattle.std.proofs.Common.{◌≡◌, ◌∷◌, ◌++◌, None, true, false, refl, sym, subst, ◌∙◌, ap, arith, append_assoc}
use Rattle.std.specs.Prelude.{IsTrue}
use Rattle.ci_pool.specs.Cells.{cell_at, comes_before, is_of}
use Rattle.ci_pool.specs.Changes.{IsAscending, AllCells, Follows}
use Rattle.ci_pool.proofs.Lists.{ascending_front, ascending_back, none_right, none_left, none_this, all_append, all_map, before_it, behind_it, before_trans, behind_else}
use Rattle.ci_pool.proofs.Forks.{at_fork}
use Rattle.ci_pool.proofs.tree.Cells.+split.Goals as goal

pub split-middle-requires : goal.split-middle-requires
split-middle-requires t c =
    let f = at_fork c.self.view_is c.self.invariant c.in-Some.is in
    let fork = c.in-Some.fork.value in
    let same : c.replace-behind.result ≡ fork.behind = cc in
    let none : cell_at c.args.set c.args.ci (fork.before ++ fork.cell ∷ fork.behind) ≡ None =
    ap (cell_at c.args.set c.args.ci) (sym f.is) ∙ c.requires in
    let right = none_right c.args.set c.args.ci fork.before (fork.cell ∷ fork.behind) none in (
      rw same (omega (arith, f.behind_shorter)),
      rw same
          (rw (none_this c.args.set c.args.ci fork.cell fork.behind right) at right),
    )

pub split-before-requires : goal.split-before-requires
split-before-requires t c =
    let f = at_fork c.self.view_is c.self.invariant c.in-Some.is in
    let fork = c.in-Some.fork.value in
    let same : c.replace-before.result ≡ fork.before = cc in
    let none : cell_at c.args.set c.args.ci (fork.before ++ fork.cell ∷ fork.behind) ≡ None =
    ap (cell_at c.args.set c.args.ci) (sym f.is) ∙ c.requires in (
      rw same (omega (arith, f.before_shorter)),
      rw same
          (none_left c.args.set c.args.ci fork.before (fork.cell ∷ fork.behind) none),
    )

pub close-requires : goal.close-requires
close-requires t c =
    let f = at_fork c.self.view_is c.self.invariant c.in-Some.is in
    let fork = c.in-Some.fork.value in
    let whole : c.split-middle.result.0 ++ c.split-middle.result.1 ≡ fork.behind = cc in
    let all : IsAscending (fork.before ++ fork.cell ∷ (c.split-middle.result.0 ++ c.split-middle.result.1)) =
    rw whole f.ascending in
    let b : c.deref_mut-then-comes_before.result.now.before ≡ fork.before = cc in
    let k : c.deref_mut-then-comes_before.result.now.cell ≡ fork.cell = cc in
    rw (b, k)
    (ascending_front (fork.before ++ fork.cell ∷ c.split-middle.result.0) c.split-middle.result.1
    (subst IsAscending
    (sym (append_assoc fork.before (fork.cell ∷ c.split-middle.result.0) c.split-middle.result.1)) all))

pub close-requires-else-comes_before : goal.close-requires-else-comes_before
close-requires-else-comes_before t c =
    let f = at_fork c.self.view_is c.self.invariant c.in-Some.is in
    let fork = c.in-Some.fork.value in
    let whole : c.split-before.result.0 ++ c.split-before.result.1 ≡ fork.before = cc in
    let all : IsAscending ((c.split-before.result.0 ++ c.split-before.result.1) ++ fork.cell ∷ fork.behind) =
    rw whole f.ascending in
    let b : c.deref_mut-else-comes_before-2.result.now.behind ≡ fork.behind = cc in
    let k : c.deref_mut-else-comes_before-2.result.now.cell ≡ fork.cell = cc in
    rw (b, k)
    (ascending_back c.split-before.result.0 (c.split-before.result.1 ++ fork.cell ∷ fork.behind)
    (subst IsAscending (append_assoc c.split-before.result.0 c.split-before.result.1 (fork.cell ∷ fork.behind))
    all))

pub returns-then-comes_before-clause-before : goal.returns-then-comes_before-clause-before
returns-then-comes_before-clause-before t c =
    let f = at_fork c.self.view_is c.self.invariant c.in-Some.is in
    let fork = c.in-Some.fork.value in
    let here : comes_before fork.cell.set fork.cell.ci c.args.set c.args.ci ≡ true = cc in
    let first : AllCells (λ b. IsTrue (comes_before b.set b.ci c.args.set c.args.ci)) fork.before =
    all_map (λ b. IsTrue (comes_before b.set b.ci fork.cell.set fork.cell.ci))
    (λ b. IsTrue (comes_before b.set b.ci c.args.set c.args.ci)) fork.before
    (λ b h. before_trans b.set b.ci fork.cell.set fork.cell.ci c.args.set c.args.ci h here)
    (before_it fork.before fork.cell fork.behind f.ascending) in
    let all : AllCells (λ b. IsTrue (comes_before b.set b.ci c.args.set c.args.ci))
    (fork.before ++ fork.cell ∷ c.split-middle.result.0) =
    all_append (λ b. IsTrue (comes_before b.set b.ci c.args.set c.args.ci)) fork.before
    (fork.cell ∷ c.split-middle.result.0) first (here, c.split-middle.ensures.before) in
    let k : c.deref_mut-then-comes_before.result.now.cell ≡ fork.cell = cc in
    let b : c.deref_mut-then-comes_before.result.now.before ≡ fork.before = cc in
    subst (AllCells (λ b. IsTrue (comes_before b.set b.ci c.args.set c.args.ci)))
    (sym (c.close.ensures ∙ (rw (b, k) refl))) all

pub returns-else-comes_before-clause-behind : goal.returns-else-comes_before-clause-behind
returns-else-comes_before-clause-behind t c =
    let f = at_fork c.self.view_is c.self.invariant c.in-Some.is in
    let fork = c.in-Some.fork.value in
    let none : cell_at c.args.set c.args.ci (fork.before ++ fork.cell ∷ fork.behind) ≡ None =
    ap (cell_at c.args.set c.args.ci) (sym f.is) ∙ c.requires in
    let other : is_of c.args.set c.args.ci fork.cell ≡ false = none_this c.args.set c.args.ci fork.cell fork.behind
    (none_right c.args.set c.args.ci fork.before (fork.cell ∷ fork.behind) none) in
    let later : comes_before fork.cell.set fork.cell.ci c.args.set c.args.ci ≡ false = cc in
    let here = behind_else fork.cell c.args.set c.args.ci other later in
    let last : AllCells (λ b. IsTrue (comes_before c.args.set c.args.ci b.set b.ci)) fork.behind =
    all_map (Follows fork.cell) (λ b. IsTrue (comes_before c.args.set c.args.ci b.set b.ci)) fork.behind
    (λ b h. before_trans c.args.set c.args.ci fork.cell.set fork.cell.ci b.set b.ci here h)
    (behind_it fork.before fork.cell fork.behind f.ascending) in
    let all : AllCells (λ b. IsTrue (comes_before c.args.set c.args.ci b.set b.ci))
    (c.split-before.result.1 ++ fork.cell ∷ fork.behind) =
    all_append (λ b. IsTrue (comes_before c.args.set c.args.ci b.set b.ci)) c.split-before.result.1
    (fork.cell ∷ fork.behind) c.split-before.ensures.behind (here, last) in
    let k : c.deref_mut-else-comes_before-2.result.now.cell ≡ fork.cell = cc in
    let b : c.deref_mut-else-comes_before-2.result.now.behind ≡ fork.behind = cc in
    subst (AllCells (λ b. IsTrue (comes_before c.args.set c.args.ci b.set b.ci)))
    (sym (c.close-else-comes_before.ensures ∙ (rw (b, k) refl))) all
