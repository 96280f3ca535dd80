use Rattle.std.proofs.Common.{◌≡◌, ◌⊎◌, ap, refl, sym, subst, List, Some, ℕ}
use Rattle.command_words.specs.declared.words.Command.{Command}
use Rattle.command_words.specs.declared.words.Command.TheVariants as command
use Rattle.fp_model.specs.Messages.{lines_of}
use Rattle.fp_source.specs.declared.part.Part.TheVariants as part
use Rattle.command_tasks.specs.Answers.{MayStandIn}
use Rattle.fp_system.specs.Courses.{input}
use Rattle.fp_system.specs.Gives.{Ran, Took}
use Rattle.fp_system.specs.Table.{ByLog, IsEnd}
use Rattle.fp_system.specs.inside.Acted.{Acted, IsLate, given_of}
use Rattle.command_tasks.specs.Setups.{job_of}
use Rattle.fp_system.proofs.Calls.{late_on, late_run, of_same, took_none}
use Rattle.fp_system.proofs.commands.act.Goals as goal

-- ---- what is due and what is given

pub returns-in-Define-clause-acted : goal.returns-in-Define-clause-acted
returns-in-Define-clause-acted g c kinds words left lines s t =
    let old = g.T.Site.disk c.args.site.now in
    of_same (λ (x : Command). Acted x (job_of c.args.task.now.setup) c.args.task.now.events
    (given_of kinds words left old) c.define_on.result old (g.T.Site.disk c.define_on.new.site)) c.in-Define.is
    (record { due = c.define_on.ensures.due; gives = c.define_on.ensures.made t })

pub returns-in-Run-clause-acted : goal.returns-in-Run-clause-acted
returns-in-Run-clause-acted g c kinds words left lines s t =
    let job = job_of c.args.task.now.setup in
    let events = c.args.task.now.events in
    let old = g.T.Site.disk c.args.site.now in
    let new = g.T.Site.disk c.run_on.new.site in
    let log = old.contents 0 in
    of_same (λ (x : Command). Acted x job events (given_of kinds words left old) c.run_on.result old new) c.in-Run.is
    (record {
      due = subst (λ (text : List ℕ). ByLog job log (IsEnd job log text) c.run_on.result ⊎ MayStandIn c.run_on.result)
          (sym lines) (c.run_on.ensures.due s t);
      gives = subst (λ (text : List ℕ). Ran job (input events (lines_of text)) c.run_on.result old new) (sym lines)
          (c.run_on.ensures.ran s t);
    })

pub returns-in-Show-clause-acted : goal.returns-in-Show-clause-acted
returns-in-Show-clause-acted g c kinds words left lines s t =
    let old = g.T.Site.disk c.args.site.now in
    of_same (λ (x : Command). Acted x (job_of c.args.task.now.setup) c.args.task.now.events
    (given_of kinds words left old) c.show_on.result old (g.T.Site.disk c.show_on.new.site)) c.in-Show.is
    (record { due = c.show_on.ensures.due t; gives = c.show_on.ensures.shown t })

pub returns-in-Log-clause-acted : goal.returns-in-Log-clause-acted
returns-in-Log-clause-acted g c kinds words left lines s t =
    let old = g.T.Site.disk c.args.site.now in
    of_same (λ (x : Command). Acted x (job_of c.args.task.now.setup) c.args.task.now.events
    (given_of kinds words left old) c.log_on.result old (g.T.Site.disk c.log_on.new.site)) c.in-Log.is
    (record { due = c.log_on.ensures.due t; gives = c.log_on.ensures.logged t })

pub returns-in-Migrate-clause-acted : goal.returns-in-Migrate-clause-acted
returns-in-Migrate-clause-acted g c kinds words left lines s t =
    let old = g.T.Site.disk c.args.site.now in
    of_same (λ (x : Command). Acted x (job_of c.args.task.now.setup) c.args.task.now.events
    (given_of kinds words left old) c.migrate_on.result old (g.T.Site.disk c.migrate_on.new.site)) c.in-Migrate.is
    (record { due = c.migrate_on.ensures.due t; gives = c.migrate_on.ensures.migrated t })

pub returns-in-Audit-clause-acted : goal.returns-in-Audit-clause-acted
returns-in-Audit-clause-acted g c kinds words left lines s t =
    let old = g.T.Site.disk c.args.site.now in
    of_same (λ (x : Command). Acted x (job_of c.args.task.now.setup) c.args.task.now.events
    (given_of kinds words left old) c.audit_on.result old (g.T.Site.disk c.audit_on.new.site)) c.in-Audit.is
    (record { due = c.audit_on.ensures.due t; gives = c.audit_on.ensures.audited t })

-- ---- what is answered

pub returns-in-Define-clause-late : goal.returns-in-Define-clause-late
returns-in-Define-clause-late g c =
    late_on c.args.command (g.S.Source.faults c.args.source.now) (g.T.Site.faults c.args.site.now)
    (g.T.Site.faults c.define_on.new.site) c.define_on.result (c.define_on.new.site ≡ c.args.site.now)
    c.define_on.ensures.of c.define_on.ensures.cause (λ e none. c.define_on.ensures.untouched none)

pub returns-in-Run-clause-late : goal.returns-in-Run-clause-late
returns-in-Run-clause-late g c =
    let read = g.S.Source.faults c.args.source.now in
    let read2 = g.S.Source.faults c.run_on.new.source in
    let before = g.T.Site.faults c.args.site.now in
    let now = g.T.Site.faults c.run_on.new.site in
    of_same (λ (x : Command). IsLate x read read2 before now c.run_on.result (c.run_on.new.site ≡ c.args.site.now))
    c.in-Run.is
    (late_run read read2 before now c.run_on.result (c.run_on.new.site ≡ c.args.site.now) c.run_on.ensures.early
    c.run_on.ensures.cause)

pub returns-in-Show-clause-late : goal.returns-in-Show-clause-late
returns-in-Show-clause-late g c =
    late_on c.args.command (g.S.Source.faults c.args.source.now) (g.T.Site.faults c.args.site.now)
    (g.T.Site.faults c.show_on.new.site) c.show_on.result (c.show_on.new.site ≡ c.args.site.now)
    c.show_on.ensures.of c.show_on.ensures.cause (λ e none. absurd cc)

pub returns-in-Log-clause-late : goal.returns-in-Log-clause-late
returns-in-Log-clause-late g c =
    late_on c.args.command (g.S.Source.faults c.args.source.now) (g.T.Site.faults c.args.site.now)
    (g.T.Site.faults c.log_on.new.site) c.log_on.result (c.log_on.new.site ≡ c.args.site.now)
    c.log_on.ensures.of c.log_on.ensures.cause (λ e none. absurd cc)

pub returns-in-Migrate-clause-late : goal.returns-in-Migrate-clause-late
returns-in-Migrate-clause-late g c =
    late_on c.args.command (g.S.Source.faults c.args.source.now) (g.T.Site.faults c.args.site.now)
    (g.T.Site.faults c.migrate_on.new.site) c.migrate_on.result (c.migrate_on.new.site ≡ c.args.site.now)
    c.migrate_on.ensures.of c.migrate_on.ensures.cause (λ e none. absurd cc)

pub returns-in-Audit-clause-late : goal.returns-in-Audit-clause-late
returns-in-Audit-clause-late g c =
    late_on c.args.command (g.S.Source.faults c.args.source.now) (g.T.Site.faults c.args.site.now)
    (g.T.Site.faults c.audit_on.new.site) c.audit_on.result (c.audit_on.new.site ≡ c.args.site.now)
    c.audit_on.ensures.of c.audit_on.ensures.cause (λ e none. absurd cc)

-- ---- what is read

pub returns-in-Run-clause-took : goal.returns-in-Run-clause-took
returns-in-Run-clause-took g c s =
    let old = g.S.Source.left c.args.source.now in
    let new = g.S.Source.left c.run_on.new.source in
    of_same (λ (x : Command). Took (Some x) c.run_on.result old new) c.in-Run.is (record {
      no_schedule = λ other. absurd (other refl);
      no_messages = λ other. absurd (other refl);
      all = λ run done. c.run_on.ensures.read s done;
      unread = λ run of. ap (λ (x : _). g.S.Source.left x part.Messages) (c.run_on.ensures.unread of);
    })

pub returns-in-Define-clause-took : goal.returns-in-Define-clause-took
returns-in-Define-clause-took g c s =
    took_none c.args.command c.define_on.result (g.S.Source.left c.args.source.now) (λ e. cc)

pub returns-in-Show-clause-took : goal.returns-in-Show-clause-took
returns-in-Show-clause-took g c s =
    took_none c.args.command c.show_on.result (g.S.Source.left c.args.source.now) (λ e. cc)

pub returns-in-Log-clause-took : goal.returns-in-Log-clause-took
returns-in-Log-clause-took g c s =
    took_none c.args.command c.log_on.result (g.S.Source.left c.args.source.now) (λ e. cc)

pub returns-in-Migrate-clause-took : goal.returns-in-Migrate-clause-took
returns-in-Migrate-clause-took g c s =
    took_none c.args.command c.migrate_on.result (g.S.Source.left c.args.source.now) (λ e. cc)

pub returns-in-Audit-clause-took : goal.returns-in-Audit-clause-took
returns-in-Audit-clause-took g c s =
    took_none c.args.command c.audit_on.result (g.S.Source.left c.args.source.now) (λ e. cc)
