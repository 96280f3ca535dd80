use Rattle.std.proofs.Common.{◌≡◌, refl, arith, ◌≤◌, ◌++◌, length, take}
use Rattle.std.proofs.lemmas.Grind.{common_steps}
use Rattle.fp_core.specs.Relation.{rules_in}
use Rattle.fp_core.specs.inside.Sealing.{replies_of}
use Rattle.fp_core.specs.Sparing.{IsLogSet}
use Rattle.fp_core.proofs.FrontLemmas.{fronts_none, fronts_on, fronts_sealing, fronts_sent, holds_none, holds_on, holds_sealed, holds_sent}
use Rattle.fp_core.proofs.Logs.{halts, rest_behind, sent_behind, tells}
use Rattle.fp_core.proofs.Seals.{log_nothing, log_turned}
use Rattle.fp_core.proofs.SparingLemmas.{spares_none, spares_only, spares_sealed}
use Rattle.fp_core.proofs.Steps.{left_alone}
use Rattle.fp_core.proofs.engine.Engine.seal.Goals as goal

pub returns-then-is_empty-clause-at : goal.returns-then-is_empty-clause-at
returns-then-is_empty-clause-at g c origin m told at =
    let engine = c.args.self.now in
    let none : length engine.owed.items ≡ 0 = grind (arith, common_steps) in
    record { turned = log_nothing engine m at.parts none; at = at }

pub returns-then-is_empty-clause-leaves : goal.returns-then-is_empty-clause-leaves
returns-then-is_empty-clause-leaves g c origin m told at =
    left_alone origin (rules_in c.args.self.now) m 1 (g.T.Site.disk c.args.site.now) c.args.self.now
    (g.met.T.Site.lawful c.args.site.now told) at

pub returns-in_err-count-clause-leaves : goal.returns-in_err-count-clause-leaves
returns-in_err-count-clause-leaves g c origin m told at =
    let engine = c.args.self.now in
    let some : 1 ≤ length engine.owed.items = grind (arith, common_steps) in
    halts origin engine m (g.T.Site.disk c.args.site.now) at (g.met.T.Site.lawful c.args.site.now told) some
    (g.T.Site.disk c.seal.new.site) (c.seal.ensures.only told)
    (c.seal.ensures.crash origin.front (origin.groups ++ m.groups) told at.at_rest)
    (λ image is. c.seal.ensures.settles origin.front (origin.groups ++ m.groups) image told at.at_rest is)

pub returns-in_err-tell-clause-leaves : goal.returns-in_err-tell-clause-leaves
returns-in_err-tell-clause-leaves g c origin m told at =
    let engine = c.args.self.now in
    let some : 1 ≤ length engine.owed.items = grind (arith, common_steps) in
    let told1 = c.seal.ensures.site.still_told told in
    tells origin engine m (g.T.Site.disk c.args.site.now) at (g.met.T.Site.lawful c.args.site.now told) some
    (g.T.Site.disk c.seal.new.site) (c.seal.ensures.only told)
    (c.seal.ensures.crash origin.front (origin.groups ++ m.groups) told at.at_rest)
    (g.met.T.Site.lawful c.seal.new.site told1) c.seal.new.self.gate
    (c.in_ok-count.ensures.durable origin.front (origin.groups ++ m.groups) told at.at_rest)
    c.in_ok-count.count c.in_ok-count.ensures.count
    (g.T.Site.disk c.tell.new.site) (g.met.T.Site.lawful c.tell.new.site (c.tell.ensures.site.still_told told1))
    (c.tell.ensures.same told1) (c.tell.ensures.crash told1)
    (c.tell.ensures.part told1)

pub returns-clause-turned : goal.returns-clause-turned
returns-clause-turned g c m s =
    let engine = c.args.self.now in
    let some : 1 ≤ length engine.owed.items = grind (arith, common_steps) in
    let w = c.in_ok-count.ensures in
    log_turned engine m s c.in_ok-count.count w.count c.seal.new.self c.tell.new.queues c.tell.new.owed w.sealed
    w.unsealed c.seal.ensures.spare c.tell.ensures.queues c.in_ok-tell.ensures.freed c.in_ok-tell.ensures.rest
    c.tell.ensures.capacity some

pub returns-clause-at : goal.returns-clause-at
returns-clause-at g c origin m told at =
    let engine = c.args.self.now in
    let some : 1 ≤ length engine.owed.items = grind (arith, common_steps) in
    let w = c.in_ok-count.ensures in
    let told1 = c.seal.ensures.site.still_told told in
    let turned = log_turned engine m at.parts c.in_ok-count.count w.count c.seal.new.self c.tell.new.queues
    c.tell.new.owed w.sealed w.unsealed c.seal.ensures.spare c.tell.ensures.queues c.in_ok-tell.ensures.freed
    c.in_ok-tell.ensures.rest c.tell.ensures.capacity some in
    record {
      turned = turned;
      at = record {
        parts = turned.stands;
        at_rest =
            rest_behind origin engine m (g.T.Site.disk c.args.site.now) at (g.met.T.Site.lawful c.args.site.now told)
            some
            (g.T.Site.disk c.seal.new.site) (c.seal.ensures.only told)
            (c.seal.ensures.crash origin.front (origin.groups ++ m.groups) told at.at_rest)
            (g.met.T.Site.lawful c.seal.new.site told1) c.seal.new.self.gate
            (w.durable origin.front (origin.groups ++ m.groups) told at.at_rest)
            c.in_ok-count.count w.count
            (g.T.Site.disk c.tell.new.site) (g.met.T.Site.lawful c.tell.new.site (c.tell.ensures.site.still_told told1))
            (c.tell.ensures.same told1) (c.tell.ensures.crash told1);
        sent =
            sent_behind origin engine m (g.T.Site.disk c.args.site.now) at (g.met.T.Site.lawful c.args.site.now told)
            some
            (g.T.Site.disk c.seal.new.site) (c.seal.ensures.only told)
            (c.seal.ensures.crash origin.front (origin.groups ++ m.groups) told at.at_rest)
            (g.met.T.Site.lawful c.seal.new.site told1) c.seal.new.self.gate
            (w.durable origin.front (origin.groups ++ m.groups) told at.at_rest)
            c.in_ok-count.count w.count
            (g.T.Site.disk c.tell.new.site) (g.met.T.Site.lawful c.tell.new.site (c.tell.ensures.site.still_told told1))
            (c.tell.ensures.same told1) (c.tell.ensures.crash told1)
            (c.in_ok-tell.ensures.sent told1);
      };
    }

pub returns-clause-leaves : goal.returns-clause-leaves
returns-clause-leaves g c origin m told at =
    let engine = c.args.self.now in
    let some : 1 ≤ length engine.owed.items = grind (arith, common_steps) in
    let told1 = c.seal.ensures.site.still_told told in
    tells origin engine m (g.T.Site.disk c.args.site.now) at (g.met.T.Site.lawful c.args.site.now told) some
    (g.T.Site.disk c.seal.new.site) (c.seal.ensures.only told)
    (c.seal.ensures.crash origin.front (origin.groups ++ m.groups) told at.at_rest)
    (g.met.T.Site.lawful c.seal.new.site told1) c.seal.new.self.gate
    (c.in_ok-count.ensures.durable origin.front (origin.groups ++ m.groups) told at.at_rest)
    c.in_ok-count.count c.in_ok-count.ensures.count
    (g.T.Site.disk c.tell.new.site) (g.met.T.Site.lawful c.tell.new.site (c.tell.ensures.site.still_told told1))
    (c.tell.ensures.same told1) (c.tell.ensures.crash told1)
    (c.tell.ensures.part told1)

-- ---- other data sets

pub returns-then-is_empty-clause-spares : goal.returns-then-is_empty-clause-spares
returns-then-is_empty-clause-spares g c told =
    spares_none IsLogSet (g.T.Site.disk c.args.site.now) (g.met.T.Site.lawful c.args.site.now told)

pub returns-in_err-count-clause-spares : goal.returns-in_err-count-clause-spares
returns-in_err-count-clause-spares g c told =
    spares_only (g.T.Site.disk c.args.site.now) (g.T.Site.disk c.seal.new.site)
    (g.met.T.Site.lawful c.args.site.now told) (c.seal.ensures.only told)

pub returns-in_err-tell-clause-spares : goal.returns-in_err-tell-clause-spares
returns-in_err-tell-clause-spares g c told =
    let told1 = c.seal.ensures.site.still_told told in
    spares_sealed (g.T.Site.disk c.args.site.now) (g.T.Site.disk c.seal.new.site) (g.T.Site.disk c.tell.new.site)
    (replies_of (take c.in_ok-count.count c.args.self.now.owed.items))
    (g.met.T.Site.lawful c.args.site.now told) (g.met.T.Site.lawful c.seal.new.site told1) (c.seal.ensures.only told)
    (c.tell.ensures.same told1) (c.tell.ensures.crash told1)

pub returns-clause-spares : goal.returns-clause-spares
returns-clause-spares g c told =
    let told1 = c.seal.ensures.site.still_told told in
    spares_sealed (g.T.Site.disk c.args.site.now) (g.T.Site.disk c.seal.new.site) (g.T.Site.disk c.tell.new.site)
    (replies_of (take c.in_ok-count.count c.args.self.now.owed.items))
    (g.met.T.Site.lawful c.args.site.now told) (g.met.T.Site.lawful c.seal.new.site told1) (c.seal.ensures.only told)
    (c.tell.ensures.same told1) (c.tell.ensures.crash told1)

-- ---- what stands in front of the gate

pub returns-then-is_empty-clause-front : goal.returns-then-is_empty-clause-front
returns-then-is_empty-clause-front g c told =
    fronts_none (g.T.Site.disk c.args.site.now) c.args.self.now.log.gate (g.met.T.Site.lawful c.args.site.now told)

pub returns-then-is_empty-clause-front_on : goal.returns-then-is_empty-clause-front_on
returns-then-is_empty-clause-front_on g c told =
    holds_none (g.T.Site.disk c.args.site.now) c.args.self.now.log.gate c.args.self.now.log.gate refl

pub returns-in_err-count-clause-front : goal.returns-in_err-count-clause-front
returns-in_err-count-clause-front g c told =
    fronts_sealing (g.T.Site.disk c.args.site.now) (g.T.Site.disk c.seal.new.site) c.args.self.now.log.gate
    c.seal.new.self.gate (c.seal.ensures.front told)

pub returns-in_err-tell-clause-front : goal.returns-in_err-tell-clause-front
returns-in_err-tell-clause-front g c told =
    let told1 = c.seal.ensures.site.still_told told in
    let old = g.T.Site.disk c.args.site.now in
    let mid = g.T.Site.disk c.seal.new.site in
    let new = g.T.Site.disk c.tell.new.site in
    let gate = c.args.self.now.log.gate in
    let next = c.seal.new.self.gate in
    let law1 = g.met.T.Site.lawful c.seal.new.site told1 in
    let law2 = g.met.T.Site.lawful c.tell.new.site (c.tell.ensures.site.still_told told1) in
    fronts_on old mid new gate next (fronts_sealing old mid gate next (c.seal.ensures.front told))
    (holds_sealed old mid gate next (c.seal.ensures.front told) law1
    (take c.args.self.now.defs.now.log_group c.args.self.now.log.unsealed)
    (λ f groups is. c.in_ok-count.ensures.kept f groups told is))
    (fronts_sent mid new (replies_of (take c.in_ok-count.count c.args.self.now.owed.items)) next law1 law2
    (c.tell.ensures.same told1) (c.tell.ensures.crash told1))

pub returns-clause-front : goal.returns-clause-front
returns-clause-front g c told =
    let told1 = c.seal.ensures.site.still_told told in
    let old = g.T.Site.disk c.args.site.now in
    let mid = g.T.Site.disk c.seal.new.site in
    let new = g.T.Site.disk c.tell.new.site in
    let gate = c.args.self.now.log.gate in
    let next = c.seal.new.self.gate in
    let law1 = g.met.T.Site.lawful c.seal.new.site told1 in
    let law2 = g.met.T.Site.lawful c.tell.new.site (c.tell.ensures.site.still_told told1) in
    fronts_on old mid new gate next (fronts_sealing old mid gate next (c.seal.ensures.front told))
    (holds_sealed old mid gate next (c.seal.ensures.front told) law1
    (take c.args.self.now.defs.now.log_group c.args.self.now.log.unsealed)
    (λ f groups is. c.in_ok-count.ensures.kept f groups told is))
    (fronts_sent mid new (replies_of (take c.in_ok-count.count c.args.self.now.owed.items)) next law1 law2
    (c.tell.ensures.same told1) (c.tell.ensures.crash told1))

pub returns-clause-front_on : goal.returns-clause-front_on
returns-clause-front_on g c told =
    let told1 = c.seal.ensures.site.still_told told in
    let old = g.T.Site.disk c.args.site.now in
    let mid = g.T.Site.disk c.seal.new.site in
    let new = g.T.Site.disk c.tell.new.site in
    let gate = c.args.self.now.log.gate in
    let next = c.seal.new.self.gate in
    let law1 = g.met.T.Site.lawful c.seal.new.site told1 in
    let law2 = g.met.T.Site.lawful c.tell.new.site (c.tell.ensures.site.still_told told1) in
    holds_on old mid new gate next next
    (holds_sealed old mid gate next (c.seal.ensures.front told) law1
    (take c.args.self.now.defs.now.log_group c.args.self.now.log.unsealed)
    (λ f groups is. c.in_ok-count.ensures.kept f groups told is))
    (holds_sent mid new (replies_of (take c.in_ok-count.count c.args.self.now.owed.items)) next law1 law2
    (c.tell.ensures.same told1) (c.tell.ensures.crash told1))
