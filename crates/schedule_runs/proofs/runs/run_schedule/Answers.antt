use Rattle.std.proofs.Common.{refl, sym, ap, subst, []}
use Rattle.fp_site.specs.Moments.{Through}
use Rattle.fp_source.specs.declared.part.Part.TheVariants as part
use Rattle.fp_core.specs.Relation.{rules_in}
use Rattle.fp_core.specs.Sparing.{IsLogSet, Spares}
use Rattle.fp_core.specs.Fronts.{KeepsFronts}
use Rattle.fp_core.proofs.FrontLemmas.{fronts_on}
use Rattle.fp_core.proofs.Rounds.{if_err_from}
use Rattle.fp_core.proofs.SparingLemmas.{spares_on}
use Rattle.schedule_runs.specs.Standing.{IsDone, IsLeftOnWay, IsStopped}
use Rattle.schedule_runs.proofs.StandingLemmas.{drained_on_way, moments_drain, nothing_behind, on_ok_sure, stopped_drain}
use Rattle.schedule_runs.proofs.runs.run_schedule.Goals as goal

-- ---- a stop in the drain

pub returns-in_err-drain-clause-stopped : goal.returns-in_err-drain-clause-stopped
returns-in_err-drain-clause-stopped g c origin m told tells beside reached =
    let core = c.args.core.now in
    let mid = c.take_events.new.core in
    let t = c.take_events.ensures in
    let disk = g.T.Site.disk c.args.site.now in
    let disk1 = g.T.Site.disk c.take_events.new.site in
    let disk2 = g.T.Site.disk c.drain.new.site in
    let left1 = g.S.Source.left c.take_events.new.source part.Messages in
    let on = c.in_ok-take_events.ensures.taken origin m told tells beside reached in
    let stop = c.in_err-drain.field-0.0 in
    if_err_from (IsStopped origin core.engine.defs.now (rules_in core.engine) c.args.events.now m disk core.lines disk2)
    c.from_residual-in_err-drain.result stop c.from_residual-in_err-drain.ensures.1
    (stopped_drain origin c.args.events.now m disk core.lines core.engine [] disk1 mid.lines left1 mid.engine t.rules
    (ap (λ d. d.now) t.defs) on refl disk2 stop
    (c.in_err-drain.ensures.stopped origin on.here (t.site.still_told told) (t.source.continued.still_told tells) on.beside
    on.reached))

pub returns-in_err-drain-clause-moments : goal.returns-in_err-drain-clause-moments
returns-in_err-drain-clause-moments g c origin m told tells beside reached =
    let core = c.args.core.now in
    let mid = c.take_events.new.core in
    let t = c.take_events.ensures in
    let disk = g.T.Site.disk c.args.site.now in
    let disk1 = g.T.Site.disk c.take_events.new.site in
    let disk2 = g.T.Site.disk c.drain.new.site in
    let left1 = g.S.Source.left c.take_events.new.source part.Messages in
    let told1 = t.site.still_told told in
    let on = c.in_ok-take_events.ensures.taken origin m told tells beside reached in
    moments_drain origin c.args.events.now m disk core.lines core.engine [] disk1 mid.lines left1 mid.engine t.rules
    (ap (λ d. d.now) t.defs) on refl disk2 (g.met.T.Site.lawful c.take_events.new.site told1)
    (t.moments origin m told tells beside reached)
    (c.drain.ensures.moments origin on.here told1 (t.source.continued.still_told tells) on.beside on.reached)

pub returns-in_err-drain-clause-spares : goal.returns-in_err-drain-clause-spares
returns-in_err-drain-clause-spares g c told =
    let told1 = c.take_events.ensures.site.still_told told in
    spares_on IsLogSet (g.T.Site.disk c.args.site.now) (g.T.Site.disk c.take_events.new.site)
    (g.T.Site.disk c.drain.new.site) (g.met.T.Site.lawful c.take_events.new.site told1)
    (c.take_events.ensures.spares told) (c.drain.ensures.spares told1)

pub returns-in_err-drain-clause-front : goal.returns-in_err-drain-clause-front
returns-in_err-drain-clause-front g c told =
    let t = c.take_events.ensures in
    fronts_on (g.T.Site.disk c.args.site.now) (g.T.Site.disk c.take_events.new.site) (g.T.Site.disk c.drain.new.site)
    c.args.core.now.engine.log.gate c.take_events.new.core.engine.log.gate (t.front told)
    (c.in_ok-take_events.ensures.front_on told) (c.drain.ensures.front (t.site.still_told told))

-- ---- the end

pub returns-clause-done : goal.returns-clause-done
returns-clause-done g c origin m told tells beside reached =
    let core = c.args.core.now in
    let mid = c.take_events.new.core in
    let new = c.drain.new.self in
    let t = c.take_events.ensures in
    let disk = g.T.Site.disk c.args.site.now in
    let disk1 = g.T.Site.disk c.take_events.new.site in
    let left1 = g.S.Source.left c.take_events.new.source part.Messages in
    let left2 = g.S.Source.left c.drain.new.source part.Messages in
    let on = c.in_ok-take_events.ensures.taken origin m told tells beside reached in
    on_ok_sure _ c.close.result
    (subst (λ s. IsDone origin core.engine.defs.now (rules_in core.engine) c.args.events.now m disk (g.T.Site.disk s)
    c.close.new.self.lines left2 c.close.new.self.engine) (sym c.close.ensures.site)
    (subst (λ x. IsDone origin core.engine.defs.now (rules_in core.engine) c.args.events.now m disk
    (g.T.Site.disk c.drain.new.site) x.lines left2 x.engine) (sym c.close.ensures.same)
    (drained_on_way origin c.args.events.now m disk core.lines core.engine [] disk1 mid.lines left1 mid.engine t.rules
    (ap (λ d. d.now) t.defs) on refl (g.T.Site.disk c.drain.new.site) new.lines left2 new.engine c.drain.ensures.rules
    (ap (λ d. d.now) c.drain.ensures.defs)
    (c.in_ok-drain.ensures.drained origin on.here (t.site.still_told told) (t.source.continued.still_told tells) on.beside
    on.reached))))

pub returns-clause-read : goal.returns-clause-read
returns-clause-read g c tells =
    on_ok_sure _ c.close.result
    (nothing_behind c.drain.new.self.lines (g.S.Source.left c.drain.new.source part.Messages)
    (c.in_ok-drain.ensures.read (c.take_events.ensures.source.continued.still_told tells)))

pub returns-clause-moments : goal.returns-clause-moments
returns-clause-moments g c origin m told tells beside reached =
    let core = c.args.core.now in
    let mid = c.take_events.new.core in
    let t = c.take_events.ensures in
    let disk = g.T.Site.disk c.args.site.now in
    let disk1 = g.T.Site.disk c.take_events.new.site in
    let disk2 = g.T.Site.disk c.drain.new.site in
    let left1 = g.S.Source.left c.take_events.new.source part.Messages in
    let told1 = t.site.still_told told in
    let on = c.in_ok-take_events.ensures.taken origin m told tells beside reached in
    subst (λ s. Through disk (g.T.Site.disk s) (IsLeftOnWay origin core.engine.defs.now (rules_in core.engine)
    c.args.events.now m disk)) (sym c.close.ensures.site)
    (moments_drain origin c.args.events.now m disk core.lines core.engine [] disk1 mid.lines left1 mid.engine t.rules
    (ap (λ d. d.now) t.defs) on refl disk2 (g.met.T.Site.lawful c.take_events.new.site told1)
    (t.moments origin m told tells beside reached)
    (c.drain.ensures.moments origin on.here told1 (t.source.continued.still_told tells) on.beside on.reached))

pub returns-clause-spares : goal.returns-clause-spares
returns-clause-spares g c told =
    let told1 = c.take_events.ensures.site.still_told told in
    subst (λ s. Spares IsLogSet (g.T.Site.disk c.args.site.now) (g.T.Site.disk s)) (sym c.close.ensures.site)
    (spares_on IsLogSet (g.T.Site.disk c.args.site.now) (g.T.Site.disk c.take_events.new.site)
    (g.T.Site.disk c.drain.new.site) (g.met.T.Site.lawful c.take_events.new.site told1)
    (c.take_events.ensures.spares told) (c.drain.ensures.spares told1))

pub returns-clause-front : goal.returns-clause-front
returns-clause-front g c told =
    let t = c.take_events.ensures in
    let disk = g.T.Site.disk c.args.site.now in
    let gate = c.args.core.now.engine.log.gate in
    subst (λ s. KeepsFronts disk gate (g.T.Site.disk s)) (sym c.close.ensures.site)
    (fronts_on disk (g.T.Site.disk c.take_events.new.site) (g.T.Site.disk c.drain.new.site) gate
    c.take_events.new.core.engine.log.gate (t.front told) (c.in_ok-take_events.ensures.front_on told)
    (c.drain.ensures.front (t.site.still_told told)))
