use Rattle.std.proofs.Common.{◌∙◌, ⊎_elim, refl, sym, subst}
use Rattle.fp_core.specs.Standing.{Origin}
use Rattle.fp_model.specs.Messages.{lines_of}
use Rattle.fp_source.specs.declared.part.Part.TheVariants as part
use Rattle.command_tasks.specs.Answers.{MayStandIn}
use Rattle.fp_system.specs.Courses.{input}
use Rattle.fp_system.specs.Gives.{Went}
use Rattle.command_tasks.specs.Parts.{front_in}
use Rattle.fp_system.specs.Table.{IsEnd}
use Rattle.command_tasks.specs.declared.status.Status.TheVariants.{OldFormat}
use Rattle.command_tasks.specs.Setups.{job_of}
use Rattle.fp_system.proofs.CauseLemmas.{no_read_fault}
use Rattle.command_tasks.proofs.CauseLemmas.{site_since}
use Rattle.fp_system.proofs.Due.{ended_due, judged_due, late, not_of_log, old_due}
use Rattle.fp_system.proofs.Restarted.{log_behind, new_told, old_told, once_behind}
use Rattle.fp_system.proofs.Runs.{ran_not, ran_on}
use Rattle.fp_system.proofs.Went.{begins, stood, went, went_not}
use Rattle.fp_system.proofs.acting.run_on.Goals as goal

-- ---- a log that wasn't read

pub returns-in-Err-clause-due : goal.returns-in-Err-clause-due
returns-in-Err-clause-due g c s t =
    let job = job_of c.args.task.now.setup in
    let log = (g.T.Site.disk c.args.site.now).contents 0 in
    judged_due job log (IsEnd job log (g.S.Source.left c.args.source.now part.Messages)) c.in-Err.answer
    (c.in-Err.ensures.refused t).due

pub returns-in-Err-clause-ran : goal.returns-in-Err-clause-ran
returns-in-Err-clause-ran g c s t =
    let calls = c.restart_for.ensures in
    ran_not (job_of c.args.task.now.setup)
    (input c.args.task.now.events (lines_of (g.S.Source.left c.args.source.now part.Messages))) c.in-Err.answer
    (g.T.Site.disk c.args.site.now) (g.T.Site.disk c.restart_for.new.site) (g.met.T.Site.lawful c.args.site.now t)
    (g.met.T.Site.lawful c.restart_for.new.site (calls.site.still_told t)) (calls.unchanged t) c.in-Err.ensures.fault.1
    (λ format earlier sound new. (c.in-Err.ensures.refused t).never format earlier sound)

pub returns-in-Err-clause-early : goal.returns-in-Err-clause-early
returns-in-Err-clause-early g c early = c.in-Err.ensures.fault.0.0 early

pub returns-in-Err-clause-read : goal.returns-in-Err-clause-read
returns-in-Err-clause-read g c s done = absurd (c.in-Err.ensures.fault.1 done)

pub returns-in-Err-clause-cause : goal.returns-in-Err-clause-cause
returns-in-Err-clause-cause g c = record {
  source = no_read_fault (g.S.Source.faults c.args.source.now) c.in-Err.answer c.in-Err.ensures.fault.0;
  site = c.in-Err.ensures.cause;
}

-- ---- a log of format 1

pub returns-then-format-eq-OLD_FORMAT-clause-due : goal.returns-then-format-eq-OLD_FORMAT-clause-due
returns-then-format-eq-OLD_FORMAT-clause-due g c s t =
    let job = job_of c.args.task.now.setup in
    let h = g.T.Site.disk c.args.site.now in
    let it = c.in-Ok.ensures.ok t in
    let log = c.in-Ok.started.log in
    old_due job (h.contents 0) (g.S.Source.left c.args.source.now part.Messages) it.good
    (old_told job h (g.T.Site.disk c.restart_for.new.site) (c.restart_for.ensures.unchanged t).contents
    c.in-Ok.started.msdbs log c.in-Ok.started.lasts it (sym c.format.ensures ∙ c.if-format-eq-OLD_FORMAT.true))

pub returns-then-format-eq-OLD_FORMAT-clause-ran : goal.returns-then-format-eq-OLD_FORMAT-clause-ran
returns-then-format-eq-OLD_FORMAT-clause-ran g c s t =
    let job = job_of c.args.task.now.setup in
    let h = g.T.Site.disk c.args.site.now in
    let h1 = g.T.Site.disk c.restart_for.new.site in
    let calls = c.restart_for.ensures in
    let first = old_told job h h1 (calls.unchanged t).contents c.in-Ok.started.msdbs c.in-Ok.started.log
    c.in-Ok.started.lasts (c.in-Ok.ensures.ok t) (sym c.format.ensures ∙ c.if-format-eq-OLD_FORMAT.true) in
    ran_not job (input c.args.task.now.events (lines_of (g.S.Source.left c.args.source.now part.Messages))) OldFormat
    h h1 (g.met.T.Site.lawful c.args.site.now t)
    (g.met.T.Site.lawful c.restart_for.new.site (calls.site.still_told t)) (calls.unchanged t) (λ done. cc)
    (λ format earlier sound new. absurd (new first))

pub returns-then-format-eq-OLD_FORMAT-clause-early : goal.returns-then-format-eq-OLD_FORMAT-clause-early
returns-then-format-eq-OLD_FORMAT-clause-early g c early = early

pub returns-then-format-eq-OLD_FORMAT-clause-cause : goal.returns-then-format-eq-OLD_FORMAT-clause-cause
returns-then-format-eq-OLD_FORMAT-clause-cause g c = record { source = refl; site = c.in-Ok.ensures.stayed }

-- ---- a run

pub returns-clause-due : goal.returns-clause-due
returns-clause-due g c s t =
    let job = job_of c.args.task.now.setup in
    let h = g.T.Site.disk c.args.site.now in
    let it = c.in-Ok.ensures.ok t in
    let on = c.run_started.ensures in
    ended_due job (h.contents 0) (g.S.Source.left c.args.source.now part.Messages) it.good
    (new_told job h (g.T.Site.disk c.restart_for.new.site) (c.restart_for.ensures.unchanged t).contents
    c.in-Ok.started.msdbs c.in-Ok.started.log c.in-Ok.started.lasts it
    (λ e. c.if-format-eq-OLD_FORMAT.false (c.format.ensures ∙ e)))
    c.run_started.result on.outcome (on.all s) (λ number e. on.line number s e)

pub returns-clause-ran : goal.returns-clause-ran
returns-clause-ran g c s t =
    let setup = c.args.task.now.setup in
    let job = job_of setup in
    let given = input c.args.task.now.events (lines_of (g.S.Source.left c.args.source.now part.Messages)) in
    let h = g.T.Site.disk c.args.site.now in
    let h1 = g.T.Site.disk c.restart_for.new.site in
    let h2 = g.T.Site.disk c.run_started.new.site in
    let answer = c.run_started.result in
    let same = c.restart_for.ensures.unchanged t in
    let t1 = c.restart_for.ensures.site.still_told t in
    let law1 = g.met.T.Site.lawful c.restart_for.new.site t1 in
    let store = c.in-Ok.started.msdbs in
    let state = c.in-Ok.started.log in
    let lasts = c.in-Ok.started.lasts in
    let it = c.in-Ok.ensures.ok t in
    let on = c.run_started.ensures in
    ran_on job given answer h h1 h2 law1 same store state lasts it
    (λ e. c.if-format-eq-OLD_FORMAT.false (c.format.ensures ∙ e)) (on.others t1) (on.front t1)
    (λ format earlier safe.
    let found = it.sound format earlier safe.now in
    let origin : Origin = record { front = front_in format job; groups = found.groups; sent = h1.sent } in
    ⊎_elim
    (λ gone. went job format given earlier c.requires.setup.are c.requires.setup.no_dedbs h h1 h2
    (g.met.T.Site.lawful c.run_started.new.site (on.site.still_told t1)) safe same.contents same.sent same.crash
    found.groups state.gate found.all found.at_rest answer gone)
    (λ none. subst (λ (x : _). Went job format given earlier answer h (g.T.Site.disk x)) (sym none.1)
    (went_not job format given earlier h h1 (g.met.T.Site.lawful c.args.site.now t) law1 safe same.contents same.sent
    same.crash answer (subst MayStandIn (sym none.0) tt)))
    (on.ran origin (stood job format (h.contents 0) earlier safe.now) s t1
    (begins job format (h.contents 0) earlier safe.now h1 store state lasts found)))

pub returns-clause-early : goal.returns-clause-early
returns-clause-early g c early = late c.run_started.result c.run_started.ensures.outcome early

pub returns-clause-unread : goal.returns-clause-unread
returns-clause-unread g c of = absurd (not_of_log c.run_started.result c.run_started.ensures.outcome of)

pub returns-clause-cause : goal.returns-clause-cause
returns-clause-cause g c = record {
  source = c.run_started.ensures.cause.source;
  site =
      site_since (g.T.Site.faults c.args.site.now) (g.T.Site.faults c.restart_for.new.site)
      (g.T.Site.faults c.run_started.new.site) c.run_started.result c.in-Ok.ensures.stayed
      c.run_started.ensures.cause.site;
}

pub returns-clause-once : goal.returns-clause-once
returns-clause-once g c t tells =
    let on = c.run_started.ensures.reads 0 tells in once_behind on.1 (c.restart_for.ensures.once t on.0)

pub returns-clause-reads : goal.returns-clause-reads
returns-clause-reads g c = log_behind c.restart_for.ensures.reads c.run_started.ensures.reads
