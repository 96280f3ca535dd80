use Rattle.std.proofs.Common.{◌≡◌, ◌∙◌, ap, inl, inr, refl, sym, subst, arith, List, []}
use Rattle.std.specs.Prelude.{Err, option_map}
use Rattle.fp_core.specs.Standing.{number_of}
use Rattle.fp_system.proofs.Due.{stop_line}
use Rattle.fp_core.specs.declared.stop.Stop.TheVariants as stop
use Rattle.fp_core.specs.Sparing.{IsLogSet as IsLog}
use Rattle.fp_model.specs.Machine.{at_rest}
use Rattle.fp_model.specs.Messages.{lines_of}
use Rattle.fp_source.specs.declared.part.Part.TheVariants as part
use Rattle.std.specs.List.{AllByRecursion}
use Rattle.fp_model.specs.Events.{IsEventOf}
use Rattle.fp_model.specs.declared.definitions.Defs.{Defs}
use Rattle.fp_model.specs.declared.events.Event.{Event}
use Rattle.fp_model.specs.Rules.{Rules}
use Rattle.fp_site.specs.Moments.{Through}
use Rattle.schedule_runs.specs.Standing.{IsDone, IsLeftOnWay, IsStopped}
use Rattle.fp_system.specs.Courses.{input}
use Rattle.fp_system.specs.inside.Courses.{RanFrom}
use Rattle.command_tasks.specs.declared.status.Status.{Status}
use Rattle.command_tasks.specs.Parts.{rules_for}
use Rattle.command_tasks.specs.Setups.{job_of}
use Rattle.fp_system.proofs.Begins.{any_history, any_states, can_run, reached_at_rest, stands_beside}
use Rattle.fp_core.proofs.Onwards.{reads_nothing_none}
use Rattle.command_tasks.specs.Causes.{IsCaused}
use Rattle.fp_system.proofs.CauseLemmas.{stop_by_site, stop_by_source}
use Rattle.fp_system.proofs.Ended.{ended_done, ended_early}
use Rattle.fp_core.proofs.FrontLemmas.{fronts_from, fronts_none}
use Rattle.fp_core.proofs.SparingLemmas.{spares_none}
use Rattle.fp_system.proofs.acting.run_started.Goals as goal

pub new-requires-clause-setup : goal.new-requires-clause-setup
new-requires-clause-setup g c = can_run c.args.task.now.setup c.requires.setup

pub returns-in-Err-clause-ran : goal.returns-in-Err-clause-ran
returns-in-Err-clause-ran g c origin h s t is = inr (refl, refl)

pub returns-in-Err-clause-others : goal.returns-in-Err-clause-others
returns-in-Err-clause-others g c t =
    spares_none IsLog (g.T.Site.disk c.args.site.now) (g.met.T.Site.lawful c.args.site.now t)

pub run_schedule-requires : goal.run_schedule-requires
run_schedule-requires g c =
    let core = c.in-Ok.core in
    let setup = c.args.task.now.setup in
    let msdbs = c.args.started.msdbs.msdbs in
    let some = c.requires.numbers in
    let format = c.args.started.log.front_format in
    let rules = rules_for (job_of setup) in
    let h = any_history format some.entries msdbs in
    let stands = c.in-Ok.ensures.stands [] h refl (sym some.count) (any_states format some.entries msdbs)
    (sym some.format) some.lasts in
    record {
      reached = (at_rest rules [] h, reached_at_rest core.engine rules [] h c.in-Ok.ensures.rules stands);
      events =
          subst (λ (es : List Event). AllByRecursion (IsEventOf core.engine.defs.now) es) (sym c.as_slice.ensures)
          (subst (λ (d : Defs). AllByRecursion (IsEventOf d) c.args.task.now.events) (sym c.in-Ok.ensures.defs)
          c.requires.events);
      routed = c.in-Ok.ensures.routed;
    }

-- what is so of the core's definitions, rules and events is so of the task's
as_given : (P : Defs → Rules → List Event → Type 0) {d d2 : Defs} {r r2 : Rules} {es es2 : List Event} → d ≡ d2 → r ≡ r2
    → es ≡ es2 → P d r es → P d2 r2 es2
as_given P {d = d} {d2 = d2} {r = r} {r2 = r2} {es = es} {es2 = es2} same same2 same3 it =
    subst (λ (x : List Event). P d2 r2 x) same3
    (subst (λ (x : Rules). P d2 x es) same2 (subst (λ (x : Defs). P x r es) same it))

pub returns-in-Ok-run_schedule-clause-ran : goal.returns-in-Ok-run_schedule-clause-ran
returns-in-Ok-run_schedule-clause-ran g c origin h s t is =
    let setup = c.args.task.now.setup in
    let job = job_of setup in
    let left = g.S.Source.left c.args.source.now part.Messages in
    let bytes = g.S.Source.left c.run_schedule.new.source part.Messages in
    let given = input c.args.task.now.events (lines_of left) in
    let rules = rules_for job in
    let core = c.in-Ok.core in
    let next = c.run_schedule.new.core in
    let m = at_rest rules (lines_of left) h in
    let old = g.T.Site.disk c.args.site.now in
    let new = g.T.Site.disk c.run_schedule.new.site in
    let stands = c.in-Ok.ensures.stands (lines_of left) h is.msdbs is.place is.states
    is.format is.lasts in
    let beside = stands_beside origin h c.args.started.msdbs c.args.started.log c.args.started.lasts old core.engine
    rules core.lines left is
    stands c.in-Ok.ensures.gate (c.in-Ok.ensures.lines left) in
    let reached = reached_at_rest core.engine rules (lines_of left) h c.in-Ok.ensures.rules stands in
    inl (ended_done job given origin h old new next.lines bytes next.engine
    (as_given (λ d r es. IsDone origin d r es m old new next.lines bytes next.engine) c.in-Ok.ensures.defs
    c.in-Ok.ensures.rules c.as_slice.ensures (c.in-Ok-run_schedule.ensures.done origin m t s beside reached))
    (as_given (λ d r es. Through old new (IsLeftOnWay origin d r es m old)) c.in-Ok.ensures.defs c.in-Ok.ensures.rules
    c.as_slice.ensures (c.run_schedule.ensures.moments origin m t s beside reached)))

pub returns-clause-ran : goal.returns-clause-ran
returns-clause-ran g c origin h s t is =
    let setup = c.args.task.now.setup in
    let job = job_of setup in
    let left = g.S.Source.left c.args.source.now part.Messages in
    let given = input c.args.task.now.events (lines_of left) in
    let rules = rules_for job in
    let core = c.in-Ok.core in
    let why = c.in-Err-run_schedule.stop in
    let m = at_rest rules (lines_of left) h in
    let old = g.T.Site.disk c.args.site.now in
    let new = g.T.Site.disk c.run_schedule.new.site in
    let stands = c.in-Ok.ensures.stands (lines_of left) h is.msdbs is.place is.states
    is.format is.lasts in
    let beside = stands_beside origin h c.args.started.msdbs c.args.started.log c.args.started.lasts old core.engine
    rules core.lines left is
    stands c.in-Ok.ensures.gate (c.in-Ok.ensures.lines left) in
    let reached = reached_at_rest core.engine rules (lines_of left) h c.in-Ok.ensures.rules stands in
    let stopped = as_given (λ d r es. IsStopped origin d r es m old core.lines new why) c.in-Ok.ensures.defs
    c.in-Ok.ensures.rules c.as_slice.ensures (c.in-Err-run_schedule.ensures.stopped origin m t s beside reached) in
    let none = c.in-Ok.ensures.given in
    inl (subst (λ (answer : Status). RanFrom job given origin h answer old new) (sym c.stop_status.ensures)
    (ended_early job given origin h old new core.lines why stopped
    (λ number e. omega (arith, stopped.first number e, none))
    (as_given (λ d r es. Through old new (IsLeftOnWay origin d r es m old)) c.in-Ok.ensures.defs c.in-Ok.ensures.rules
    c.as_slice.ensures (c.run_schedule.ensures.moments origin m t s beside reached))))

-- ---- what is answered

pub returns-in-Err-clause-outcome : goal.returns-in-Err-clause-outcome
returns-in-Err-clause-outcome g c = inr (stop.Memory, refl)

pub returns-clause-outcome : goal.returns-clause-outcome
returns-clause-outcome g c = inr (c.in-Err-run_schedule.stop, c.stop_status.ensures)

-- ---- faults, and what is read

pub returns-in-Err-clause-cause : goal.returns-in-Err-clause-cause
returns-in-Err-clause-cause g c = record { source = refl; site = refl }

pub returns-in-Err-clause-reads : goal.returns-in-Err-clause-reads
returns-in-Err-clause-reads g c =
    reads_nothing_none (g.T.Site.tells_reads c.args.site.now) (g.T.Site.bytes_read c.args.site.now)

pub returns-in-Ok-run_schedule-clause-cause : goal.returns-in-Ok-run_schedule-clause-cause
returns-in-Ok-run_schedule-clause-cause g c = record {
  source = c.in-Ok-run_schedule.ensures.source_calm;
  site = c.in-Ok-run_schedule.ensures.site_calm;
}

pub returns-clause-cause : goal.returns-clause-cause
returns-clause-cause g c =
    let why = c.in-Err-run_schedule.stop in
    let read = g.S.Source.faults c.args.source.now in
    let read2 = g.S.Source.faults c.run_schedule.new.source in
    let site = g.T.Site.faults c.args.site.now in
    let site2 = g.T.Site.faults c.run_schedule.new.site in
    subst (IsCaused read read2 site site2) (sym c.stop_status.ensures) (record {
      source = stop_by_source read read2 why c.in-Err-run_schedule.ensures.source_cause;
      site = stop_by_site site site2 why c.in-Err-run_schedule.ensures.site_cause;
    })

pub returns-clause-line : goal.returns-clause-line
returns-clause-line g c number s e =
    let left = g.S.Source.left c.args.source.now part.Messages in
    ap (option_map number_of) (sym (c.in-Ok.ensures.fault left))
    ∙ c.in-Err-run_schedule.ensures.line s number
    (ap (λ why. Err why) (stop_line c.in-Err-run_schedule.stop number (sym c.stop_status.ensures ∙ e)))

-- ---- what stands in front of the gate

pub returns-in-Err-clause-front : goal.returns-in-Err-clause-front
returns-in-Err-clause-front g c t =
    fronts_none (g.T.Site.disk c.args.site.now) c.args.started.log.gate (g.met.T.Site.lawful c.args.site.now t)

pub returns-in-Ok-run_schedule-clause-front : goal.returns-in-Ok-run_schedule-clause-front
returns-in-Ok-run_schedule-clause-front g c t =
    fronts_from (g.T.Site.disk c.args.site.now) (g.T.Site.disk c.run_schedule.new.site) c.args.started.log.gate
    c.in-Ok.core.engine.log.gate c.in-Ok.ensures.gate (c.run_schedule.ensures.front t)

pub returns-clause-front : goal.returns-clause-front
returns-clause-front g c t =
    fronts_from (g.T.Site.disk c.args.site.now) (g.T.Site.disk c.run_schedule.new.site) c.args.started.log.gate
    c.in-Ok.core.engine.log.gate c.in-Ok.ensures.gate (c.run_schedule.ensures.front t)
