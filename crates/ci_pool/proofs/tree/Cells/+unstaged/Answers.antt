use Rattle.std.proofs.Common.{◌≡◌, ◌∷◌, ◌++◌, true, false, refl, sym, subst, ◌∙◌, ap}
use Rattle.ci_pool.specs.declared.tree.Fork.{Fork}
use Rattle.ci_pool.specs.Changes.{IsAscending, any_staged}
use Rattle.ci_pool.specs.inside.Changes.{all_unstaged, unstaged, is_only_staged}
use Rattle.ci_pool.specs.Trees.{below}
use Rattle.ci_pool.proofs.Lists.{unstaged_append, unstaged_none, ascending_unstaged}
use Rattle.ci_pool.proofs.Forks.{at_fork}
use Rattle.ci_pool.proofs.tree.Cells.+unstaged.Goals as goal

pub returns-then-not-deref : goal.returns-then-not-deref
returns-then-not-deref t c =
    let f = at_fork c.self.view_is c.self.invariant c.in-Some.is in
    let none : any_staged (below c.in-Some.fork.value) ≡ false = let no : c.in-Some.fork.value.marks.staged ≡ false =
    cc in sym (ap (λ m. m.staged) f.marks) ∙ no in
    c.close.ensures ∙ sym (ap all_unstaged f.is ∙ unstaged_none (below c.in-Some.fork.value) none)

pub joined-requires : goal.joined-requires
joined-requires t c =
    let f = at_fork c.self.view_is c.self.invariant c.in-Some.is in
    let fork = c.in-Some.fork.value in
    let k : c.deref-in-Some.result.now.cell ≡ fork.cell = ap (λ (q : Fork). q.cell) c.deref-in-Some.ensures
    ∙ c.sides-before.ensures.cell ∙ ap (λ (q : Fork). q.cell) c.deref_mut.ensures.value in
    let l : c.sides-before.result.0 ≡ fork.before = c.sides-before.ensures.before
    ∙ ap (λ (q : Fork). q.before) c.deref_mut.ensures.value in
    let r : c.sides-before.result.1 ≡ fork.behind = c.sides-before.ensures.behind
    ∙ ap (λ (q : Fork). q.behind) c.deref_mut.ensures.value in
    let only : is_only_staged fork.cell ≡ true = sym (c.is_only_staged.ensures ∙ ap is_only_staged k)
    ∙ c.if-is_only_staged.true in
    let parts : c.unstaged-before.result ++ c.unstaged-behind.result ≡ all_unstaged (below fork) =
    rw (c.unstaged-before.ensures, l, c.unstaged-behind.ensures, r)
    (sym (unstaged_append fork.before (fork.cell ∷ fork.behind) ∙ (rw only refl))) in
    subst IsAscending (sym parts) (ascending_unstaged (below fork) f.ascending)

pub returns-then-is_only_staged : goal.returns-then-is_only_staged
returns-then-is_only_staged t c =
    let f = at_fork c.self.view_is c.self.invariant c.in-Some.is in
    let fork = c.in-Some.fork.value in
    let k : c.deref-in-Some.result.now.cell ≡ fork.cell = ap (λ (q : Fork). q.cell) c.deref-in-Some.ensures
    ∙ c.sides-before.ensures.cell ∙ ap (λ (q : Fork). q.cell) c.deref_mut.ensures.value in
    let l : c.sides-before.result.0 ≡ fork.before = c.sides-before.ensures.before
    ∙ ap (λ (q : Fork). q.before) c.deref_mut.ensures.value in
    let r : c.sides-before.result.1 ≡ fork.behind = c.sides-before.ensures.behind
    ∙ ap (λ (q : Fork). q.behind) c.deref_mut.ensures.value in
    let only : is_only_staged fork.cell ≡ true = sym (c.is_only_staged.ensures ∙ ap is_only_staged k)
    ∙ c.if-is_only_staged.true in
    let parts : c.unstaged-before.result ++ c.unstaged-behind.result ≡ all_unstaged (below fork) =
    rw (c.unstaged-before.ensures, l, c.unstaged-behind.ensures, r)
    (sym (unstaged_append fork.before (fork.cell ∷ fork.behind) ∙ (rw only refl))) in
    c.joined.ensures ∙ parts ∙ ap all_unstaged (sym f.is)

pub between-requires : goal.between-requires
between-requires t c =
    let f = at_fork c.self.view_is c.self.invariant c.in-Some.is in
    let fork = c.in-Some.fork.value in
    let k : c.deref-in-Some.result.now.cell ≡ fork.cell = ap (λ (q : Fork). q.cell) c.deref-in-Some.ensures
    ∙ c.sides-before.ensures.cell ∙ ap (λ (q : Fork). q.cell) c.deref_mut.ensures.value in
    let l : c.sides-before.result.0 ≡ fork.before = c.sides-before.ensures.before
    ∙ ap (λ (q : Fork). q.before) c.deref_mut.ensures.value in
    let r : c.sides-before.result.1 ≡ fork.behind = c.sides-before.ensures.behind
    ∙ ap (λ (q : Fork). q.behind) c.deref_mut.ensures.value in
    let only : is_only_staged fork.cell ≡ false = sym (c.is_only_staged.ensures ∙ ap is_only_staged k)
    ∙ c.if-is_only_staged.false in
    let m : c.deref_mut-in-Some.result.now.cell ≡ fork.cell =
    ap (λ (q : Fork). q.cell) c.deref_mut-in-Some.ensures.value ∙ c.sides-before.ensures.cell
    ∙ ap (λ (q : Fork). q.cell) c.deref_mut.ensures.value in
    let n : c.drop_staged.new.self ≡ unstaged fork.cell = c.drop_staged.ensures ∙ ap unstaged m in
    let parts : c.unstaged-before.result ++ c.drop_staged.new.self ∷ c.unstaged-behind.result ≡ all_unstaged
    (below fork) = rw (c.unstaged-before.ensures, l, c.unstaged-behind.ensures, r, n)
    (sym (unstaged_append fork.before (fork.cell ∷ fork.behind) ∙ (rw only refl))) in
    subst IsAscending (sym parts) (ascending_unstaged (below fork) f.ascending)

pub returns-else-is_only_staged : goal.returns-else-is_only_staged
returns-else-is_only_staged t c =
    let f = at_fork c.self.view_is c.self.invariant c.in-Some.is in
    let fork = c.in-Some.fork.value in
    let k : c.deref-in-Some.result.now.cell ≡ fork.cell = ap (λ (q : Fork). q.cell) c.deref-in-Some.ensures
    ∙ c.sides-before.ensures.cell ∙ ap (λ (q : Fork). q.cell) c.deref_mut.ensures.value in
    let l : c.sides-before.result.0 ≡ fork.before = c.sides-before.ensures.before
    ∙ ap (λ (q : Fork). q.before) c.deref_mut.ensures.value in
    let r : c.sides-before.result.1 ≡ fork.behind = c.sides-before.ensures.behind
    ∙ ap (λ (q : Fork). q.behind) c.deref_mut.ensures.value in
    let only : is_only_staged fork.cell ≡ false = sym (c.is_only_staged.ensures ∙ ap is_only_staged k)
    ∙ c.if-is_only_staged.false in
    let m : c.deref_mut-in-Some.result.now.cell ≡ fork.cell =
    ap (λ (q : Fork). q.cell) c.deref_mut-in-Some.ensures.value ∙ c.sides-before.ensures.cell
    ∙ ap (λ (q : Fork). q.cell) c.deref_mut.ensures.value in
    let n : c.drop_staged.new.self ≡ unstaged fork.cell = c.drop_staged.ensures ∙ ap unstaged m in
    let parts : c.unstaged-before.result ++ c.drop_staged.new.self ∷ c.unstaged-behind.result ≡ all_unstaged
    (below fork) = rw (c.unstaged-before.ensures, l, c.unstaged-behind.ensures, r, n)
    (sym (unstaged_append fork.before (fork.cell ∷ fork.behind) ∙ (rw only refl))) in
    c.between.ensures ∙ parts ∙ ap all_unstaged (sym f.is)
