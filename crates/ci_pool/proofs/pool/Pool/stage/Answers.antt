use Rattle.std.proofs.Common.{inl, inr, List, length, sym, subst, ◌∙◌, ap}
use Rattle.ci_pool.specs.declared.cell.Cell.{Cell}
use Rattle.ci_pool.specs.Held.{IsPool, HasSize}
use Rattle.ci_pool.proofs.Pools.{by_on, staged_waits, staged_bytes}
use Rattle.ci_pool.proofs.pool.Pool.stage.Goals as goal

pub invariant_of-self : goal.invariant_of-self
invariant_of-self c =
    let was = c.self.invariant in
    let inside = c.self.inside in
    by_on c.stage.result _ _ (IsPool inside.clean.cap inside.clean.entries c.stage.new.self) c.stage.ensures.ok
    c.stage.ensures.err
    (λ at. record {
      some = was.some;
      pending_ends = λ s k w is. was.pending_ends s k w
          (sym (staged_waits c.args.set c.args.ci s k c.args.bytes inside.cells c.stage.new.self (at s k)) ∙ is);
      staged_ends =
          λ s k b is.
          elim (staged_bytes c.args.set c.args.ci s k c.args.bytes inside.cells c.stage.new.self b (at s k) is) [
            | inl new ↦ rw (new.1, new.2) c.requires
            | inr old ↦ was.staged_ends s k b old
          ];
      apart = λ s k b there. staged_waits c.args.set c.args.ci s k c.args.bytes inside.cells c.stage.new.self (at s k)
          ∙ was.apart s k b there;
    })
    (λ same. subst (IsPool inside.clean.cap inside.clean.entries) (sym same) was)

pub returns-clause-sizes : goal.returns-clause-sizes
returns-clause-sizes c s n long sized =
    let inside = c.self.inside in
    let was : HasSize s n (record { bound = inside.clean.cap; clean = inside.clean.entries; cells = inside.cells }) =
    subst (HasSize s n) (sym c.self.view_is) sized in
    by_on c.stage.result _ _
    (HasSize s n (record { bound = inside.clean.cap; clean = inside.clean.entries; cells = c.stage.new.self }))
    c.stage.ensures.ok c.stage.ensures.err
    (λ at. record {
      pending = λ k w is. was.pending k w
          (sym (staged_waits c.args.set c.args.ci s k c.args.bytes inside.cells c.stage.new.self (at s k)) ∙ is);
      staged = λ k b is.
          elim (staged_bytes c.args.set c.args.ci s k c.args.bytes inside.cells c.stage.new.self b (at s k) is) [
            | inl new ↦ ap length new.2 ∙ long new.0
            | inr old ↦ was.staged k b old
          ];
      clean = was.clean;
    })
    (λ same. subst
    (λ (cells : List Cell). HasSize s n
    (record { bound = inside.clean.cap; clean = inside.clean.entries; cells = cells })) (sym same) was)
