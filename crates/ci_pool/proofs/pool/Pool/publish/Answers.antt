use Rattle.std.proofs.Common.{◌≡◌, inl, inr, ℕ, ◌≤◌, List, None, filter, not, Contains, sym, subst, ◌∙◌, ap}
use Rattle.std.specs.Prelude.{is_some}
use Rattle.lru.specs.LruCache.{LruCache}
use Rattle.ci_pool.specs.Cells.{Listed, cell_at, renewed_by}
use Rattle.ci_pool.specs.Held.{Held, waiting_of, staged_of, staged_at, HasSize}
use Rattle.ci_pool.proofs.Unlisting.{unlisted_is, in_filter}
use Rattle.ci_pool.proofs.Pools.{waits_published, staged_published, renewed_is, nothing_staged}
use Rattle.ci_pool.proofs.pool.Pool.publish.Goals as goal

-- what is left of the list
list_is : (c : goal.After-publish) → c.unlist.new.clean.entries ≡ filter
    (λ (e : (ℕ × ℕ) × List ℕ). not (is_some (staged_of (cell_at e.0.0 e.0.1 c.self.inside.cells))))
    c.self.inside.clean.entries
list_is c = ap (λ (q : LruCache (ℕ × ℕ) (List ℕ)). q.entries) c.unlist.ensures
    ∙ unlisted_is c.self.inside.cells c.self.inside.clean.entries c.ascend.ensures c.len-count.ensures.valid.0

-- each of these was there, and nothing of it was staged
left : (c : goal.After-publish) (s k : ℕ) (b : List ℕ) → Contains c.unlist.new.clean.entries ((s, k), b)
    → Contains c.self.inside.clean.entries ((s, k), b) × (staged_of (cell_at s k c.self.inside.cells) ≡ None)
left c s k b there =
    let f = in_filter (λ (e : (ℕ × ℕ) × List ℕ). not (is_some (staged_of (cell_at e.0.0 e.0.1 c.self.inside.cells))))
    c.self.inside.clean.entries ((s, k), b) (subst (λ (es : Listed). Contains es ((s, k), b)) (list_is c) there) in
    (f.0, nothing_staged (staged_of (cell_at s k c.self.inside.cells)) f.1)

waits : (c : goal.After-publish) (s k : ℕ) → waiting_of (cell_at s k c.publish.new.self) ≡ renewed_by c.args.place
    (staged_of (cell_at s k c.self.inside.cells)) (waiting_of (cell_at s k c.self.inside.cells))
waits c s k = ap waiting_of (c.publish.ensures s k) ∙ waits_published c.args.place (cell_at s k c.self.inside.cells)

none : (c : goal.After-publish) (s k : ℕ) → staged_of (cell_at s k c.publish.new.self) ≡ None
none c s k = ap staged_of (c.publish.ensures s k) ∙ staged_published c.args.place (cell_at s k c.self.inside.cells)

pub invariant_of-self : goal.invariant_of-self
invariant_of-self c =
    let was = c.self.invariant in
    record {
      some = subst (λ (q : LruCache (ℕ × ℕ) (List ℕ)). 1 ≤ q.cap) (sym c.unlist.ensures) was.some;
      pending_ends =
          λ s k w is.
          elim (renewed_is c.args.place (staged_of (cell_at s k c.self.inside.cells))
          (waiting_of (cell_at s k c.self.inside.cells)) w (sym (waits c s k) ∙ is)) [
            | inl old ↦ was.pending_ends s k w old.1
            | inr new ↦ was.staged_ends s k w.bytes new
          ];
      staged_ends = λ s k b is. let bad = sym (none c s k) ∙ is in absurd (cc);
      apart = λ s k b there.
          let l = left c s k b there in
          waits c s k ∙ ap (λ o. renewed_by c.args.place o (waiting_of (cell_at s k c.self.inside.cells))) l.1
          ∙ was.apart s k b l.0;
    }

pub returns-clause-list : goal.returns-clause-list
returns-clause-list c = list_is c
    ∙ ap (λ (p : Held). filter (λ (e : (ℕ × ℕ) × List ℕ). not (is_some (staged_at p e.0.0 e.0.1))) p.clean)
    c.self.view_is

pub returns-clause-clean : goal.returns-clause-clean
returns-clause-clean c contents clean s k b there =
    let l = left c s k b there in
    clean s k b (subst (λ (p : Held). Contains p.clean ((s, k), b)) c.self.view_is l.0)

pub returns-clause-sizes : goal.returns-clause-sizes
returns-clause-sizes c s n sized =
    let was : HasSize s n
    (record { bound = c.self.inside.clean.cap; clean = c.self.inside.clean.entries; cells = c.self.inside.cells }) =
    subst (HasSize s n) (sym c.self.view_is) sized in
    record {
      pending =
          λ k w is.
          elim (renewed_is c.args.place (staged_of (cell_at s k c.self.inside.cells))
          (waiting_of (cell_at s k c.self.inside.cells)) w (sym (waits c s k) ∙ is)) [
            | inl old ↦ was.pending k w old.1
            | inr new ↦ was.staged k w.bytes new
          ];
      staged = λ k b is. let bad = sym (none c s k) ∙ is in absurd (cc);
      clean = λ k b there. was.clean k b (left c s k b there).0;
    }
