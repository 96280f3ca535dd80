use Rattle.std.proofs.Common.{sym, subst}
use Rattle.std.specs.Prelude.{IsSome}
use Rattle.ci_pool.specs.Held.{held_at}
use Rattle.dedb_area.specs.Standing.{Holding}
use Rattle.dedb_area.proofs.Published.{hand_published}
use Rattle.dedb_area.proofs.areas.Areas.publish.Goals as goal

pub returns-clause-hand : goal.returns-clause-hand
returns-clause-hand c = λ s k some.
    hand_published c.args.place c.self.inside.pool c.publish.new.self c.publish.ensures.pending c.publish.ensures.list
    s k (subst (λ (h : Holding). IsSome (held_at h.pool s k)) (sym c.self.view_is) some)
