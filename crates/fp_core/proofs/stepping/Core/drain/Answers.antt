use Rattle.std.proofs.Common.{refl, ◌∙◌, ap, subst, arith, ◌+◌, ◌-◌, Bool}
use Rattle.fp_model.specs.Machine.{Machine}
use Rattle.fp_source.specs.declared.part.Part.TheVariants as part
use Rattle.fp_core.specs.Draining.{DrainStopped}
use Rattle.fp_core.specs.Relation.{rules_in}
use Rattle.fp_core.specs.Sparing.{IsLogSet}
use Rattle.fp_core.specs.inside.Rounding.{Went}
use Rattle.fp_core.proofs.Bounds.{needs_fewer, with_lines_reached}
use Rattle.fp_core.proofs.Comings.{came_on, drained_by, moments_none, moments_on, none_come, stopped_on}
use Rattle.fp_lists.proofs.ContinuedLemmas.{continued_both, continued_none}
use Rattle.fp_source.proofs.Calls.{reads_joined, reads_none}
use Rattle.fp_core.proofs.Onwards.{reads_nothing_none}
use Rattle.gated_write.proofs.Calls.{reads_nothing_both}
use Rattle.fp_core.proofs.FrontLemmas.{fronts_none, fronts_on, holds_none, holds_on}
use Rattle.fp_core.proofs.SparingLemmas.{spares_none, spares_on}
use Rattle.fp_core.proofs.RoomLemmas.{frugal_less, frugal_on}
use Rattle.fp_core.proofs.Rounds.{if_err_from}
use Rattle.fp_core.proofs.stepping.Core.drain.Goals as goal

-- ---- no round yet

pub loop-done-init : goal.loop-done-init
loop-done-init g c =
    let core = c.args.self.now in
    let disk = g.T.Site.disk c.args.site.now in
    let left = g.S.Source.left c.args.source.now part.Messages in
    let reached = c.requires.reached in
    let few = c.most_rounds-most.ensures reached.0 reached.1 in
    record {
      needs = record { m = reached.0; reached = reached.1; few = omega (arith, few) };
      come = λ origin m told tells beside.
          none_come origin core.engine.defs.now (rules_in core.engine) m disk core.lines left core.engine beside;
      moments = λ origin m told tells beside.
          moments_none origin core.engine.defs.now (rules_in core.engine) m disk core.lines
          (g.met.T.Site.lawful c.args.site.now told);
      spares = λ told. spares_none IsLogSet disk (g.met.T.Site.lawful c.args.site.now told);
      front = λ told. fronts_none disk core.engine.log.gate (g.met.T.Site.lawful c.args.site.now told);
      front_on = λ told. holds_none disk core.engine.log.gate core.engine.log.gate refl;
      fair = λ tells. refl;
      rules = refl;
      defs = refl;
      scripts = refl;
      router = refl;
      frugal = frugal_less core.engine core.engine (omega arith);
      reads = reads_nothing_none (g.T.Site.tells_reads c.args.site.now) (g.T.Site.bytes_read c.args.site.now);
      site_calm = refl;
      source_calm = refl;
      site = continued_none g.T.Site.told g.T.Site.faults g.T.Site.holds g.T.Site.keeps c.args.site.now;
      source = reads_none g.S.Source.told g.S.Source.left g.S.Source.faults g.S.Source.holds g.S.Source.keeps
          part.Messages c.args.source.now;
    }

-- ---- a stop

pub returns-in_err-round-clause-stopped : goal.returns-in_err-round-clause-stopped
returns-in_err-round-clause-stopped g c origin m told tells beside reached =
    let core = c.args.self.now in
    let stop = c.in_err-round.field-0.0 in
    let i = c.loop-done.invariant in
    let told1 = i.site.still_told told in
    let come = i.come origin m told tells beside in
    if_err_from (DrainStopped origin core.engine.defs.now (rules_in core.engine) m core.lines
    (g.T.Site.disk c.args.site.now) (g.T.Site.disk c.round.new.site)) c.from_residual.result stop
    c.from_residual.ensures.1
    (stopped_on come i.rules (ap (λ d. d.now) i.defs) (g.T.Site.disk c.round.new.site) stop
    (c.in_err-round.ensures.stopped origin come.after told1 (i.source.continued.still_told tells) come.beside))

pub returns-in_err-round-clause-moments : goal.returns-in_err-round-clause-moments
returns-in_err-round-clause-moments g c origin m told tells beside reached =
    let i = c.loop-done.invariant in
    let told1 = i.site.still_told told in
    let come = i.come origin m told tells beside in
    moments_on come i.rules (ap (λ d. d.now) i.defs) (g.T.Site.disk c.round.new.site)
    (g.met.T.Site.lawful c.loop-done.site told1) (i.moments origin m told tells beside)
    (c.round.ensures.moments origin come.after told1 (i.source.continued.still_told tells) come.beside)

-- ---- the end

pub returns-then-not-branch-clause-reached : goal.returns-then-not-branch-clause-reached
returns-then-not-branch-clause-reached g c =
    let mid = c.loop-done.self in
    let new = c.round.new.self in
    let needs = c.loop-done.invariant.needs in
    let went = c.in_ok-round.ensures.went needs.m needs.reached.stands in
    let m : Machine = record needs.m { lines = went.0 } in
    let done = subst (λ (b : Bool). Went mid.engine.defs.now (rules_in mid.engine) m mid.lines new.lines new.engine b)
    c.if-not-branch.true went.1 in (
      m,
      with_lines_reached mid.engine new.engine needs.m went.0 c.round.ensures.rules
          (ap (λ d. d.now) c.round.ensures.defs) needs.reached done.1,
    )

pub returns-then-not-branch-clause-moments : goal.returns-then-not-branch-clause-moments
returns-then-not-branch-clause-moments g c origin m told tells beside reached =
    let i = c.loop-done.invariant in
    let told1 = i.site.still_told told in
    let come = i.come origin m told tells beside in
    moments_on come i.rules (ap (λ d. d.now) i.defs) (g.T.Site.disk c.round.new.site)
    (g.met.T.Site.lawful c.loop-done.site told1) (i.moments origin m told tells beside)
    (c.round.ensures.moments origin come.after told1 (i.source.continued.still_told tells) come.beside)

pub returns-then-not-branch-clause-drained : goal.returns-then-not-branch-clause-drained
returns-then-not-branch-clause-drained g c origin m told tells beside reached =
    let core = c.args.self.now in
    let new = c.round.new.self in
    let disk = g.T.Site.disk c.args.site.now in
    let disk2 = g.T.Site.disk c.round.new.site in
    let left2 = g.S.Source.left c.round.new.source part.Messages in
    let i = c.loop-done.invariant in
    let told1 = i.site.still_told told in
    let come = i.come origin m told tells beside in
    let came = came_on come i.rules (ap (λ d. d.now) i.defs) disk2
    (c.in_ok-round.ensures.beside origin come.after told1 (i.source.continued.still_told tells) come.beside) in
    drained_by origin core.engine.defs.now (rules_in core.engine) m disk disk2 core.lines new.lines left2 new.engine
    (ap (λ d. d.now) (c.round.ensures.defs ∙ i.defs)) (c.round.ensures.rules ∙ i.rules) came.come
    (came.drained c.if-not-branch.true)

-- ---- a round more

pub loop-done-preserved : goal.loop-done-preserved
loop-done-preserved g c =
    let core = c.args.self.now in
    let mid = c.loop-done.self in
    let new = c.round.new.self in
    let i = c.loop-done.invariant in
    let went = c.in_ok-round.ensures.went i.needs.m i.needs.reached.stands in
    let ahead : Machine = record i.needs.m { lines = went.0 } in
    record {
      needs = needs_fewer mid.engine new.engine mid.lines new.lines (c.most_rounds-most.result - c.loop-done._done)
          (c.most_rounds-most.result - (c.loop-done._done + 1)) c.round.ensures.rules
          (ap (λ d. d.now) c.round.ensures.defs)
          (omega arith) i.needs went.0
          (subst (λ (b : Bool). Went mid.engine.defs.now (rules_in mid.engine) ahead mid.lines new.lines new.engine b)
          c.if-not-branch.false went.1);
      come = λ origin m told tells beside.
          let come = i.come origin m told tells beside in
          (came_on come i.rules (ap (λ d. d.now) i.defs) (g.T.Site.disk c.round.new.site)
          (c.in_ok-round.ensures.beside origin come.after (i.site.still_told told) (i.source.continued.still_told tells)
          come.beside)).come;
      moments = λ origin m told tells beside.
          let told1 = i.site.still_told told in
          let come = i.come origin m told tells beside in
          moments_on come i.rules (ap (λ d. d.now) i.defs) (g.T.Site.disk c.round.new.site)
          (g.met.T.Site.lawful c.loop-done.site told1) (i.moments origin m told tells beside)
          (c.round.ensures.moments origin come.after told1 (i.source.continued.still_told tells) come.beside);
      spares = λ told.
          let told1 = i.site.still_told told in
          spares_on IsLogSet (g.T.Site.disk c.args.site.now) (g.T.Site.disk c.loop-done.site)
          (g.T.Site.disk c.round.new.site) (g.met.T.Site.lawful c.loop-done.site told1) (i.spares told)
          (c.round.ensures.spares told1);
      front = λ told.
          fronts_on (g.T.Site.disk c.args.site.now) (g.T.Site.disk c.loop-done.site) (g.T.Site.disk c.round.new.site)
          core.engine.log.gate mid.engine.log.gate (i.front told) (i.front_on told)
          (c.round.ensures.front (i.site.still_told told));
      front_on = λ told.
          holds_on (g.T.Site.disk c.args.site.now) (g.T.Site.disk c.loop-done.site) (g.T.Site.disk c.round.new.site)
          core.engine.log.gate mid.engine.log.gate new.engine.log.gate (i.front_on told)
          (c.in_ok-round.ensures.front_on (i.site.still_told told));
      fair = λ tells. c.in_ok-round.ensures.fair (i.source.continued.still_told tells) ∙ i.fair tells;
      rules = c.round.ensures.rules ∙ i.rules;
      defs = c.round.ensures.defs ∙ i.defs;
      scripts = c.round.ensures.scripts ∙ i.scripts;
      router = c.round.ensures.router ∙ i.router;
      frugal = frugal_on core.engine mid.engine new.engine (ap (λ d. d.now) i.defs) i.frugal c.round.ensures.frugal;
      reads = reads_nothing_both (g.T.Site.tells_reads c.args.site.now) (g.T.Site.tells_reads c.loop-done.site)
          (g.T.Site.tells_reads c.round.new.site)
          (g.T.Site.bytes_read c.args.site.now) (g.T.Site.bytes_read c.loop-done.site)
          (g.T.Site.bytes_read c.round.new.site) i.reads c.round.ensures.reads;
      site_calm = c.in_ok-round.ensures.site_calm ∙ i.site_calm;
      source_calm = c.in_ok-round.ensures.source_calm ∙ i.source_calm;
      site = continued_both g.T.Site.told g.T.Site.faults g.T.Site.holds g.T.Site.keeps c.args.site.now
          c.loop-done.site c.round.new.site
          i.site c.round.ensures.site;
      source = reads_joined g.S.Source.told g.S.Source.left g.S.Source.faults g.S.Source.holds g.S.Source.keeps
          part.Messages
          c.args.source.now c.loop-done.source c.round.new.source i.source c.round.ensures.source;
    }

-- ---- other data sets

pub returns-in_err-round-clause-spares : goal.returns-in_err-round-clause-spares
returns-in_err-round-clause-spares g c told =
    let told1 = c.loop-done.invariant.site.still_told told in
    spares_on IsLogSet (g.T.Site.disk c.args.site.now) (g.T.Site.disk c.loop-done.site) (g.T.Site.disk c.round.new.site)
    (g.met.T.Site.lawful c.loop-done.site told1) (c.loop-done.invariant.spares told) (c.round.ensures.spares told1)

pub returns-then-not-branch-clause-spares : goal.returns-then-not-branch-clause-spares
returns-then-not-branch-clause-spares g c told =
    let told1 = c.loop-done.invariant.site.still_told told in
    spares_on IsLogSet (g.T.Site.disk c.args.site.now) (g.T.Site.disk c.loop-done.site) (g.T.Site.disk c.round.new.site)
    (g.met.T.Site.lawful c.loop-done.site told1) (c.loop-done.invariant.spares told) (c.round.ensures.spares told1)

-- ---- what stands in front of the gate

pub returns-in_err-round-clause-front : goal.returns-in_err-round-clause-front
returns-in_err-round-clause-front g c told =
    let i = c.loop-done.invariant in
    fronts_on (g.T.Site.disk c.args.site.now) (g.T.Site.disk c.loop-done.site) (g.T.Site.disk c.round.new.site)
    c.args.self.now.engine.log.gate c.loop-done.self.engine.log.gate (i.front told) (i.front_on told)
    (c.round.ensures.front (i.site.still_told told))

pub returns-then-not-branch-clause-front : goal.returns-then-not-branch-clause-front
returns-then-not-branch-clause-front g c told =
    let i = c.loop-done.invariant in
    fronts_on (g.T.Site.disk c.args.site.now) (g.T.Site.disk c.loop-done.site) (g.T.Site.disk c.round.new.site)
    c.args.self.now.engine.log.gate c.loop-done.self.engine.log.gate (i.front told) (i.front_on told)
    (c.round.ensures.front (i.site.still_told told))

pub returns-then-not-branch-clause-front_on : goal.returns-then-not-branch-clause-front_on
returns-then-not-branch-clause-front_on g c told =
    let i = c.loop-done.invariant in
    holds_on (g.T.Site.disk c.args.site.now) (g.T.Site.disk c.loop-done.site) (g.T.Site.disk c.round.new.site)
    c.args.self.now.engine.log.gate c.loop-done.self.engine.log.gate c.round.new.self.engine.log.gate
    (i.front_on told) (c.in_ok-round.ensures.front_on (i.site.still_told told))

-- ---- the room that the log keeps free

pub returns-in_err-round-clause-frugal : goal.returns-in_err-round-clause-frugal
returns-in_err-round-clause-frugal g c =
    let i = c.loop-done.invariant in
    frugal_on c.args.self.now.engine c.loop-done.self.engine c.round.new.self.engine (ap (λ d. d.now) i.defs) i.frugal
    c.round.ensures.frugal

pub returns-then-not-branch-clause-frugal : goal.returns-then-not-branch-clause-frugal
returns-then-not-branch-clause-frugal g c =
    let i = c.loop-done.invariant in
    frugal_on c.args.self.now.engine c.loop-done.self.engine c.round.new.self.engine (ap (λ d. d.now) i.defs) i.frugal
    c.round.ensures.frugal
