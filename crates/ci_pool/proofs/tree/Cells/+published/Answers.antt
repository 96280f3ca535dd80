use Rattle.std.proofs.Common.{◌≡◌, ◌∷◌, ◌++◌, false, sym, subst, ◌∙◌, ap}
use Rattle.ci_pool.specs.declared.tree.Fork.{Fork}
use Rattle.ci_pool.specs.Changes.{IsAscending, any_staged}
use Rattle.ci_pool.specs.inside.Changes.{all_published}
use Rattle.ci_pool.specs.Trees.{below}
use Rattle.ci_pool.proofs.Lists.{published_append, published_none, ascending_published}
use Rattle.ci_pool.proofs.Forks.{at_fork}
use Rattle.ci_pool.proofs.tree.Cells.+published.Goals as goal

pub returns-then-not-deref : goal.returns-then-not-deref
returns-then-not-deref t c =
    let f = at_fork c.self.view_is c.self.invariant c.in-Some.is in
    let none : any_staged (below c.in-Some.fork.value) ≡ false = let no : c.in-Some.fork.value.marks.staged ≡ false =
    cc in sym (ap (λ m. m.staged) f.marks) ∙ no in
    c.close.ensures
    ∙ sym (ap (all_published c.args.place) f.is ∙ published_none c.args.place (below c.in-Some.fork.value) none)

pub between-requires : goal.between-requires
between-requires t c =
    let f = at_fork c.self.view_is c.self.invariant c.in-Some.is in
    let fork = c.in-Some.fork.value in
    let k : c.deref_mut-in-Some.result.now.cell ≡ fork.cell =
    ap (λ (q : Fork). q.cell) c.deref_mut-in-Some.ensures.value ∙ c.sides-before.ensures.cell
    ∙ ap (λ (q : Fork). q.cell) c.deref_mut.ensures.value in
    let l : c.sides-before.result.0 ≡ fork.before = c.sides-before.ensures.before
    ∙ ap (λ (q : Fork). q.before) c.deref_mut.ensures.value in
    let r : c.sides-before.result.1 ≡ fork.behind = c.sides-before.ensures.behind
    ∙ ap (λ (q : Fork). q.behind) c.deref_mut.ensures.value in
    let parts : c.published.result ++ c.publish.new.self ∷ c.published-in-Some.result ≡ all_published c.args.place
    (below fork) = rw (c.published.ensures, l, c.publish.ensures, k, c.published-in-Some.ensures, r)
    (sym (published_append c.args.place fork.before fork.cell fork.behind)) in
    subst IsAscending (sym parts) (ascending_published c.args.place (below fork) f.ascending)

pub returns-else-not-deref : goal.returns-else-not-deref
returns-else-not-deref t c =
    let f = at_fork c.self.view_is c.self.invariant c.in-Some.is in
    let fork = c.in-Some.fork.value in
    let k : c.deref_mut-in-Some.result.now.cell ≡ fork.cell =
    ap (λ (q : Fork). q.cell) c.deref_mut-in-Some.ensures.value ∙ c.sides-before.ensures.cell
    ∙ ap (λ (q : Fork). q.cell) c.deref_mut.ensures.value in
    let l : c.sides-before.result.0 ≡ fork.before = c.sides-before.ensures.before
    ∙ ap (λ (q : Fork). q.before) c.deref_mut.ensures.value in
    let r : c.sides-before.result.1 ≡ fork.behind = c.sides-before.ensures.behind
    ∙ ap (λ (q : Fork). q.behind) c.deref_mut.ensures.value in
    let parts : c.published.result ++ c.publish.new.self ∷ c.published-in-Some.result ≡ all_published c.args.place
    (below fork) = rw (c.published.ensures, l, c.publish.ensures, k, c.published-in-Some.ensures, r)
    (sym (published_append c.args.place fork.before fork.cell fork.behind)) in
    c.between.ensures ∙ parts ∙ ap (all_published c.args.place) (sym f.is)
