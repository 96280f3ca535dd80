use Rattle.std.proofs.Common.{arith, refl, length}
use Rattle.ci_locks.specs.declared.locks.Grant.TheVariants as grant
use Rattle.fp_core.proofs.Grants.{has_asked, unlocked}
use Rattle.fp_core.proofs.engine.Engine.ask.Goals as goal
use Rattle.plain_laws.proofs.Results.{on_err}

pub ask-requires-clause-within : goal.ask-requires-clause-within
ask-requires-clause-within c =
    let u = c.requires.needs in
    omega (arith, c.requires.within, u.1.1.at_work.stands.rows)

pub returns-in-Held-clause-asked : goal.returns-in-Held-clause-asked
returns-in-Held-clause-asked c m t n =
    has_asked c.args.self.now m c.args.region t (record { resource = c.args.resource.now; mode = c.args.mode })
    (length c.args.self.now.locks) c.ask.new.self grant.Held n
    (rw c.in-Held.is at (c.in_ok-ask.ensures.grant m.locks m.requests n.at_work.stands.locks))
    (rw c.in-Held.is at (c.in_ok-ask.ensures.after m.locks m.requests n.at_work.stands.locks)) c.ask.ensures.regions
    (rw c.in-Held.is at (c.in_ok-ask.ensures.named m.locks m.requests n.at_work.stands.locks))
    (rw c.in-Held.is at c.in_ok-ask.ensures.short) refl

pub returns-in-Wait-clause-asked : goal.returns-in-Wait-clause-asked
returns-in-Wait-clause-asked c m t n =
    has_asked c.args.self.now m c.args.region t (record { resource = c.args.resource.now; mode = c.args.mode })
    (length c.args.self.now.locks) c.ask.new.self (grant.Wait c.in-Wait.field-0) n
    (rw c.in-Wait.is at (c.in_ok-ask.ensures.grant m.locks m.requests n.at_work.stands.locks))
    (rw c.in-Wait.is at (c.in_ok-ask.ensures.after m.locks m.requests n.at_work.stands.locks)) c.ask.ensures.regions
    (rw c.in-Wait.is at (c.in_ok-ask.ensures.named m.locks m.requests n.at_work.stands.locks))
    (rw c.in-Wait.is at c.in_ok-ask.ensures.short) refl

pub returns-clause-asked : goal.returns-clause-asked
returns-clause-asked c m t n =
    has_asked c.args.self.now m c.args.region t (record { resource = c.args.resource.now; mode = c.args.mode })
    (length c.args.self.now.locks) c.ask.new.self (grant.Cycle c.in-Cycle.cycle) n
    (rw c.in-Cycle.is at (c.in_ok-ask.ensures.grant m.locks m.requests n.at_work.stands.locks))
    (rw c.in-Cycle.is at (c.in_ok-ask.ensures.after m.locks m.requests n.at_work.stands.locks)) c.ask.ensures.regions
    (rw c.in-Cycle.is at (c.in_ok-ask.ensures.named m.locks m.requests n.at_work.stands.locks))
    (rw c.in-Cycle.is at c.in_ok-ask.ensures.short) refl

pub returns-in_err-ask-clause-err : goal.returns-in_err-ask-clause-err
returns-in_err-ask-clause-err c m t w =
    on_err c.from_residual.result (unlocked c.args.self.now m c.args.region t c.ask.new.self w c.in_err-ask.ensures.err
    c.ask.ensures.regions)
