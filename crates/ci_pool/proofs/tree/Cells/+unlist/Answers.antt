use Rattle.std.proofs.Common.{◌≡◌, false, refl, sym, ◌∙◌, ap}
use Rattle.lru.specs.LruCache.{lru_cache}
use Rattle.ci_pool.specs.declared.tree.Fork.{Fork}
use Rattle.ci_pool.specs.Changes.{any_staged}
use Rattle.ci_pool.specs.inside.Changes.{unlisted, unlisted_one}
use Rattle.ci_pool.specs.Trees.{below}
use Rattle.ci_pool.proofs.Forks.{at_fork}
use Rattle.ci_pool.proofs.Lookups.{unlisted_append, unlisted_none}
use Rattle.ci_pool.proofs.tree.Cells.+unlist.Goals as goal

pub returns-then-deref : goal.returns-then-deref
returns-then-deref t c =
    let f = at_fork c.self.view_is c.self.invariant c.in-Some.is in
    let fork = c.in-Some.fork.value in
    let old = c.args.clean.now in
    let first : c.unlist.new.clean ≡ lru_cache (unlisted fork.before old.entries) old.cap = c.unlist.ensures
    ∙ ap (λ (q : Fork). lru_cache (unlisted q.before old.entries) old.cap) c.deref-then-deref.ensures in
    let second : c.unlist_one.new.clean ≡ lru_cache (unlisted_one fork.cell (unlisted fork.before old.entries)) old.cap
    = c.unlist_one.ensures
    ∙ ap (λ (q : Fork). lru_cache (unlisted_one q.cell c.unlist.new.clean.entries) c.unlist.new.clean.cap)
    c.deref-then-deref-2.ensures ∙ (rw first refl) in
    let third : c.unlist-then-deref.new.clean ≡ lru_cache
    (unlisted fork.behind (unlisted_one fork.cell (unlisted fork.before old.entries))) old.cap =
    c.unlist-then-deref.ensures
    ∙ ap (λ (q : Fork). lru_cache (unlisted q.behind c.unlist_one.new.clean.entries) c.unlist_one.new.clean.cap)
    c.deref-then-deref-3.ensures ∙ (rw second refl) in
    third ∙ ap (λ es. lru_cache es old.cap) (sym (unlisted_append fork.before fork.cell fork.behind old.entries))
    ∙ ap (λ cells. lru_cache (unlisted cells old.entries) old.cap) (sym f.is)

pub returns-else-deref : goal.returns-else-deref
returns-else-deref t c =
    let f = at_fork c.self.view_is c.self.invariant c.in-Some.is in
    let old = c.args.clean.now in
    let none : any_staged (below c.in-Some.fork.value) ≡ false = sym (ap (λ m. m.staged) f.marks)
    ∙ sym (ap (λ (q : Fork). q.marks.staged) c.deref.ensures) ∙ c.if-deref.false in
    ap (λ es. lru_cache es old.cap)
    (sym (ap (λ cells. unlisted cells old.entries) f.is
    ∙ unlisted_none (below c.in-Some.fork.value) old.entries none))
