use Rattle.std.proofs.Common.{refl, sym, ◌∙◌, ap, subst, arith, ◌+◌, ◌≤◌, List, length, drop, get_or, Err}
use Rattle.std.proofs.lemmas.List.{at_drop_all, drop_more}
use Rattle.fp_model.specs.declared.events.Event.{Event}
use Rattle.fp_model.specs.declared.events.Event.TheVariants as event
use Rattle.fp_source.specs.declared.part.Part.TheVariants as part
use Rattle.fp_core.specs.declared.stop.Stop.{Stop}
use Rattle.fp_core.specs.Relation.{rules_in}
use Rattle.fp_core.specs.Sparing.{IsLogSet, IsSealing}
use Rattle.fp_core.specs.Standing.{Leaves, MayStop, seals_of}
use Rattle.fp_core.proofs.FrontLemmas.{fronts_none, fronts_on, holds_none, holds_on}
use Rattle.fp_lists.proofs.ContinuedLemmas.{continued_both, continued_none}
use Rattle.fp_source.proofs.Calls.{reads_joined, reads_none}
use Rattle.fp_core.proofs.Onwards.{reads_nothing_none}
use Rattle.gated_write.proofs.Calls.{reads_nothing_both}
use Rattle.fp_core.proofs.Rounds.{if_err_from}
use Rattle.fp_core.proofs.SparingLemmas.{spares_none, spares_on}
use Rattle.schedule_runs.specs.Standing.{IsStopped}
use Rattle.schedule_runs.specs.inside.Standing.{StandsOnWay}
use Rattle.schedule_runs.specs.Ways.{next_event}
use Rattle.schedule_runs.proofs.StandingLemmas.{moments_step, none_left, none_on_way, one_on_way, stopped_step}
use Rattle.schedule_runs.proofs.runs.take_events.Goals as goal
use Rattle.fp_core.proofs.ReachLemmas.{reached_step}

pub loop-event-init : goal.loop-event-init
loop-event-init g c =
    let core = c.args.core.now in
    let disk = g.T.Site.disk c.args.site.now in
    let left = g.S.Source.left c.args.source.now part.Messages in
    record {
      reached = c.requires.reached;
      stands = λ origin m told tells beside reached.
          none_on_way origin c.args.events.now m disk core.lines core.engine left beside reached;
      moments = λ origin m told tells beside reached.
          none_left origin c.args.events.now m disk core.lines core.engine left beside
          (g.met.T.Site.lawful c.args.site.now told);
      spares = λ told. spares_none IsLogSet disk (g.met.T.Site.lawful c.args.site.now told);
      front = λ told. fronts_none disk core.engine.log.gate (g.met.T.Site.lawful c.args.site.now told);
      front_on = λ told. holds_none disk core.engine.log.gate core.engine.log.gate refl;
      fair = λ tells. refl;
      rules = refl;
      defs = refl;
      scripts = refl;
      routed = c.requires.routed;
      reads = reads_nothing_none (g.T.Site.tells_reads c.args.site.now) (g.T.Site.bytes_read c.args.site.now);
      site_calm = refl;
      source_calm = refl;
      site = continued_none g.T.Site.told g.T.Site.faults g.T.Site.holds g.T.Site.keeps c.args.site.now;
      source = reads_none g.S.Source.told g.S.Source.left g.S.Source.faults g.S.Source.holds g.S.Source.keeps
          part.Messages c.args.source.now;
    }

-- ---- one event more

pub loop-event-preserved : goal.loop-event-preserved
loop-event-preserved g c =
    let core = c.args.core.now in
    let mid = c.loop-event.core in
    let new = c.step.new.self in
    let i = c.loop-event.invariant in
    let one = c.step.ensures in
    let es = c.args.events.now in
    let at = c.loop-event.event-index in
    let e = get_or es at event.In in
    let disk = g.T.Site.disk c.args.site.now in
    let disk1 = g.T.Site.disk c.loop-event.site in
    let disk2 = g.T.Site.disk c.step.new.site in
    let left1 = g.S.Source.left c.loop-event.source part.Messages in
    let left2 = g.S.Source.left c.step.new.source part.Messages in
    let more = drop_more es at event.In c.loop-event-test.true in
    let same_defs = ap (λ d. d.now) i.defs in
    let defs2 = ap (λ d. d.now) one.defs in
    let some = c.in_ok-step.ensures.turned i.reached.0 i.reached.1.stands in
    record {
      reached = reached_step mid.engine new.engine e i.reached.0 some.0 c.in_ok-step.field-0 one.rules defs2 i.reached.1
          some.1.turned;
      stands = λ origin m told tells beside reached.
          let on = i.stands origin m told tells beside reached in
          let told1 = i.site.still_told told in
          one_on_way origin es m disk core.lines core.engine (drop at es) disk1 mid.lines left1 mid.engine i.rules
          same_defs on e (drop (at + 1) es) disk2 new.lines left2 new.engine c.in_ok-step.field-0 more one.rules defs2
          (one.leaves origin on.here told1 on.beside.at)
          (c.in_ok-step.ensures.beside origin on.here told1 (i.source.continued.still_told tells) on.beside);
      moments = λ origin m told tells beside reached.
          let on = i.stands origin m told tells beside reached in
          let told1 = i.site.still_told told in
          moments_step origin es m disk core.lines core.engine (drop at es) disk1 mid.lines left1 mid.engine i.rules
          same_defs on disk2
          (subst (λ (x : Event). Leaves origin (rules_in mid.engine) on.here (seals_of x on.here) disk1 disk2)
          (sym (ap next_event more)) (one.leaves origin on.here told1 on.beside.at))
          (g.met.T.Site.lawful c.loop-event.site told1) (i.moments origin m told tells beside reached);
      spares = λ told.
          let told1 = i.site.still_told told in
          spares_on IsLogSet disk disk1 disk2 (g.met.T.Site.lawful c.loop-event.site told1) (i.spares told)
          (one.spares told1);
      front = λ told.
          fronts_on disk disk1 disk2 core.engine.log.gate mid.engine.log.gate (i.front told) (i.front_on told)
          (one.front (i.site.still_told told));
      front_on = λ told.
          holds_on disk disk1 disk2 core.engine.log.gate mid.engine.log.gate new.engine.log.gate (i.front_on told)
          (c.in_ok-step.ensures.front_on (i.site.still_told told));
      fair = λ tells. c.in_ok-step.ensures.fair (i.source.continued.still_told tells) ∙ i.fair tells;
      rules = one.rules ∙ i.rules;
      defs = one.defs ∙ i.defs;
      scripts = one.scripts ∙ i.scripts;
      routed = one.routed;
      reads = reads_nothing_both (g.T.Site.tells_reads c.args.site.now) (g.T.Site.tells_reads c.loop-event.site)
          (g.T.Site.tells_reads c.step.new.site)
          (g.T.Site.bytes_read c.args.site.now) (g.T.Site.bytes_read c.loop-event.site)
          (g.T.Site.bytes_read c.step.new.site) i.reads one.reads;
      site_calm = c.in_ok-step.ensures.site_calm ∙ i.site_calm;
      source_calm = c.in_ok-step.ensures.source_calm ∙ i.source_calm;
      site = continued_both g.T.Site.told g.T.Site.faults g.T.Site.holds g.T.Site.keeps c.args.site.now
          c.loop-event.site c.step.new.site i.site one.site;
      source = reads_joined g.S.Source.told g.S.Source.left g.S.Source.faults g.S.Source.holds g.S.Source.keeps
          part.Messages c.args.source.now c.loop-event.source c.step.new.source i.source one.source;
    }

-- ---- a stop

pub returns-in_err-step-clause-stopped : goal.returns-in_err-step-clause-stopped
returns-in_err-step-clause-stopped g c origin m told tells beside reached =
    let core = c.args.core.now in
    let mid = c.loop-event.core in
    let i = c.loop-event.invariant in
    let es = c.args.events.now in
    let at = c.loop-event.event-index in
    let disk = g.T.Site.disk c.args.site.now in
    let disk1 = g.T.Site.disk c.loop-event.site in
    let disk2 = g.T.Site.disk c.step.new.site in
    let left1 = g.S.Source.left c.loop-event.source part.Messages in
    let next = ap next_event (drop_more es at event.In c.loop-event-test.true) in
    let on = i.stands origin m told tells beside reached in
    let told1 = i.site.still_told told in
    let stop = c.in_err-step.field-0.0 in
    if_err_from (IsStopped origin core.engine.defs.now (rules_in core.engine) es m disk core.lines disk2)
    c.from_residual.result stop c.from_residual.ensures.1
    (stopped_step origin es m disk core.lines core.engine (drop at es) disk1 mid.lines left1 mid.engine i.rules
    (ap (λ d. d.now) i.defs) on disk2
    (subst (λ (x : Event). Leaves origin (rules_in mid.engine) on.here (seals_of x on.here) disk1 disk2) (sym next)
    (c.step.ensures.leaves origin on.here told1 on.beside.at))
    stop
    (subst (λ (x : Event). MayStop x mid.engine.held stop) (sym next) c.in_err-step.ensures.stops)
    (λ number is. c.in_err-step.ensures.number number (ap (λ (x : Stop). Err x) is))
    (λ region is. (c.in_err-step.ensures.unbegun on.here region (sym next ∙ is) on.beside.at.parts).idle)
    (λ calm. ap (λ s. g.T.Site.disk s) (c.step.ensures.untouched (subst (λ (x : Event). ¬ IsSealing x) next calm))))

pub returns-in_err-step-clause-moments : goal.returns-in_err-step-clause-moments
returns-in_err-step-clause-moments g c origin m told tells beside reached =
    let core = c.args.core.now in
    let mid = c.loop-event.core in
    let i = c.loop-event.invariant in
    let es = c.args.events.now in
    let at = c.loop-event.event-index in
    let disk = g.T.Site.disk c.args.site.now in
    let disk1 = g.T.Site.disk c.loop-event.site in
    let disk2 = g.T.Site.disk c.step.new.site in
    let left1 = g.S.Source.left c.loop-event.source part.Messages in
    let next = ap next_event (drop_more es at event.In c.loop-event-test.true) in
    let on = i.stands origin m told tells beside reached in
    let told1 = i.site.still_told told in
    moments_step origin es m disk core.lines core.engine (drop at es) disk1 mid.lines left1 mid.engine i.rules
    (ap (λ d. d.now) i.defs) on disk2
    (subst (λ (x : Event). Leaves origin (rules_in mid.engine) on.here (seals_of x on.here) disk1 disk2) (sym next)
    (c.step.ensures.leaves origin on.here told1 on.beside.at))
    (g.met.T.Site.lawful c.loop-event.site told1) (i.moments origin m told tells beside reached)

pub returns-in_err-step-clause-spares : goal.returns-in_err-step-clause-spares
returns-in_err-step-clause-spares g c told =
    let told1 = c.loop-event.invariant.site.still_told told in
    spares_on IsLogSet (g.T.Site.disk c.args.site.now) (g.T.Site.disk c.loop-event.site)
    (g.T.Site.disk c.step.new.site) (g.met.T.Site.lawful c.loop-event.site told1)
    (c.loop-event.invariant.spares told) (c.step.ensures.spares told1)

pub returns-in_err-step-clause-front : goal.returns-in_err-step-clause-front
returns-in_err-step-clause-front g c told =
    let i = c.loop-event.invariant in
    fronts_on (g.T.Site.disk c.args.site.now) (g.T.Site.disk c.loop-event.site) (g.T.Site.disk c.step.new.site)
    c.args.core.now.engine.log.gate c.loop-event.core.engine.log.gate (i.front told) (i.front_on told)
    (c.step.ensures.front (i.site.still_told told))

-- ---- the end

pub returns-clause-taken : goal.returns-clause-taken
returns-clause-taken g c origin m told tells beside reached =
    let core = c.args.core.now in
    let mid = c.loop-event.core in
    let es = c.args.events.now in
    let long : length es ≤ c.loop-event.event-index = omega (arith, c.loop-event-test.false) in
    subst (λ (left : List Event). StandsOnWay origin core.engine.defs.now (rules_in core.engine) es m
    (g.T.Site.disk c.args.site.now) core.lines left (g.T.Site.disk c.loop-event.site) mid.lines
    (g.S.Source.left c.loop-event.source part.Messages) mid.engine)
    (at_drop_all (λ (xs : List Event). xs) es c.loop-event.event-index long)
    (c.loop-event.invariant.stands origin m told tells beside reached)
