use Rattle.std.proofs.Common.{◌≡◌, ℕ, None, sym, subst, ◌∙◌, ap}
use Rattle.ci_pool.specs.Cells.{cell_at}
use Rattle.ci_pool.specs.Held.{waiting_of, staged_of, HasSize}
use Rattle.ci_pool.proofs.Pools.{waits_unstaged, staged_unstaged}
use Rattle.ci_pool.proofs.pool.Pool.drop_staged.Goals as goal

pub invariant_of-self : goal.invariant_of-self
invariant_of-self c =
    let was = c.self.invariant in
    let waits : (s k : ℕ) → waiting_of (cell_at s k c.drop_staged.new.self) ≡ waiting_of
    (cell_at s k c.self.inside.cells) = λ s k. ap waiting_of (c.drop_staged.ensures s k)
    ∙ waits_unstaged (cell_at s k c.self.inside.cells) in
    let none : (s k : ℕ) → staged_of (cell_at s k c.drop_staged.new.self) ≡ None = λ s k. ap staged_of
    (c.drop_staged.ensures s k) ∙ staged_unstaged (cell_at s k c.self.inside.cells) in
    record {
      some = was.some;
      pending_ends = λ s k w is. was.pending_ends s k w (sym (waits s k) ∙ is);
      staged_ends = λ s k b is. let bad = sym (none s k) ∙ is in absurd (cc);
      apart = λ s k b there. waits s k ∙ was.apart s k b there;
    }

pub returns-clause-sizes : goal.returns-clause-sizes
returns-clause-sizes c s n sized =
    let was : HasSize s n
    (record { bound = c.self.inside.clean.cap; clean = c.self.inside.clean.entries; cells = c.self.inside.cells }) =
    subst (HasSize s n) (sym c.self.view_is) sized in
    record {
      pending = λ k w is. was.pending k w
          (sym (ap waiting_of (c.drop_staged.ensures s k) ∙ waits_unstaged (cell_at s k c.self.inside.cells)) ∙ is);
      staged = λ k b is. let bad =
          sym (ap staged_of (c.drop_staged.ensures s k) ∙ staged_unstaged (cell_at s k c.self.inside.cells))
          ∙ is in absurd (cc);
      clean = was.clean;
    }
