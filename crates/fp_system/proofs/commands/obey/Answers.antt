use Rattle.std.proofs.Common.{refl, rules, sym, subst, None, Option, Some}
use Rattle.command_words.specs.Words.{command_of}
use Rattle.command_words.specs.declared.words.Command.{Command}
use Rattle.fp_exits.specs.Kinds.{kinds_of}
use Rattle.site_texts.specs.Texts.{ReadsOnce}
use Rattle.command_tasks.specs.Answers.{IsEarly, IsOfParts}
use Rattle.fp_system.specs.Gives.{IsBeforeSite}
use Rattle.command_tasks.specs.Parts.{Job, front_for}
use Rattle.command_tasks.specs.declared.status.Status.TheVariants as status
use Rattle.fp_system.specs.inside.Acted.{given_of}
use Rattle.command_tasks.specs.Setups.{job_of}
use Rattle.fp_system.proofs.Calls.{asks_for, in_order, order_kept, read_as, served_acted, served_memory, served_refused, served_usage, took_behind, took_nothing, took_parts}
use Rattle.command_tasks.proofs.CauseLemmas.{by_site, source_since}
use Rattle.command_tasks.proofs.Jobs.{no_word, one_job}
use Rattle.fp_system.proofs.SentTexts.{read_none}
use Rattle.fp_system.proofs.commands.obey.Goals as goal

-- ---- a command was done

pub returns-in-Ok-clause-served : goal.returns-in-Ok-clause-served
returns-in-Ok-clause-served g c words is s t =
    let kinds = kinds_of c.args.exits.now in
    let left = g.S.Source.left c.args.source.now in
    let old = g.T.Site.disk c.args.site.now in
    let call = c.read_task.ensures in
    served_acted (given_of kinds words left old) c.in-Ok-Some.command
    (read_as words c.args.found (Some c.in-Ok-Some.command) (search rules) is) c.act.result (job_of c.in-Ok.task.setup)
    (c.in-Ok.ensures.job s) c.in-Ok.task.events (c.in-Ok.ensures.schedule s) old (g.T.Site.disk c.act.new.site)
    (c.act.ensures.acted kinds words left (sym (call.messages s)) (call.source.still_told s) t)

pub returns-in-Ok-clause-usage : goal.returns-in-Ok-clause-usage
returns-in-Ok-clause-usage g c words is e = absurd (c.act.ensures.late.late (subst IsEarly (sym e) tt))

pub returns-in-Ok-clause-no_command : goal.returns-in-Ok-clause-no_command
returns-in-Ok-clause-no_command g c words is none =
    no_word (read_as words c.args.found (Some c.in-Ok-Some.command) (search rules) is) none

pub returns-in-Ok-clause-cause : goal.returns-in-Ok-clause-cause
returns-in-Ok-clause-cause g c = record {
  source =
      source_since (g.S.Source.faults c.args.source.now) (g.S.Source.faults c.read_task.new.source)
      (g.S.Source.faults c.act.new.source) c.act.result c.in-Ok.ensures.stayed c.act.ensures.late.cause.source;
  site = c.act.ensures.late.cause.site;
}

pub returns-in-Ok-clause-once : goal.returns-in-Ok-clause-once
returns-in-Ok-clause-once g c words which job is s t asks tells =
    subst (λ (j : Job). ReadsOnce (front_for j) ((g.T.Site.disk c.args.site.now).contents 0)
    (g.T.Site.bytes_read c.args.site.now 0) (g.T.Site.bytes_read c.act.new.site 0))
    (one_job (kinds_of c.args.exits.now) (g.S.Source.left c.args.source.now) (job_of c.in-Ok.task.setup) job
    (c.in-Ok.ensures.job s) asks.job_is) (c.act.ensures.once t tells)

pub returns-in-Ok-clause-untouched : goal.returns-in-Ok-clause-untouched
returns-in-Ok-clause-untouched g c words is before =
    c.act.ensures.late.untouched (subst (λ (found : Option Command). IsBeforeSite found c.act.result)
    (read_as words c.args.found (Some c.in-Ok-Some.command) (search rules) is) before)

pub returns-in-Ok-clause-no_job : goal.returns-in-Ok-clause-no_job
returns-in-Ok-clause-no_job g c words is s none =
    let mine = job_of c.in-Ok.task.setup in
    absurd (none (
      c.in-Ok-Some.command,
      (
        mine,
        asks_for (given_of (kinds_of c.args.exits.now) words (g.S.Source.left c.args.source.now)
            (g.T.Site.disk c.args.site.now)) c.in-Ok-Some.command
            (read_as words c.args.found (Some c.in-Ok-Some.command) (search rules) is) c.act.result mine
            (c.in-Ok.ensures.job s) c.in-Ok.task.events (c.in-Ok.ensures.schedule s),
      ),
    ))

pub returns-in-Ok-clause-parts : goal.returns-in-Ok-clause-parts
returns-in-Ok-clause-parts g c words is s =
    let call = c.read_task.ensures in
    took_behind (command_of words) c.in-Ok-Some.command c.act.result (g.S.Source.left c.args.source.now)
    (g.S.Source.left c.read_task.new.source) (g.S.Source.left c.act.new.source)
    (read_as words c.args.found (Some c.in-Ok-Some.command) (search rules) is) (call.schedule_unread s)
    (call.messages s) (c.act.ensures.took (call.source.still_told s))

pub returns-in-Ok-clause-order : goal.returns-in-Ok-clause-order
returns-in-Ok-clause-order g c words is s =
    let call = c.read_task.ensures in
    let named = read_as words c.args.found (Some c.in-Ok-Some.command) (search rules) is in
    let old = g.S.Source.left c.args.source.now in
    let new = g.S.Source.left c.act.new.source in
    in_order (kinds_of c.args.exits.now) (command_of words) c.in-Ok-Some.command c.act.result
    (job_of c.in-Ok.task.setup) c.in-Ok.task.events old new named (c.in-Ok.ensures.job s)
    (c.in-Ok.ensures.schedule s)
    (took_behind (command_of words) c.in-Ok-Some.command c.act.result old (g.S.Source.left c.read_task.new.source) new
    named (call.schedule_unread s) (call.messages s) (c.act.ensures.took (call.source.still_told s)))

-- ---- its parts were refused

pub returns-in-Err-read_task-clause-served : goal.returns-in-Err-read_task-clause-served
returns-in-Err-read_task-clause-served g c words is s t =
    let old = g.T.Site.disk c.args.site.now in
    served_refused (given_of (kinds_of c.args.exits.now) words (g.S.Source.left c.args.source.now) old)
    c.in-Ok-Some.command (read_as words c.args.found (Some c.in-Ok-Some.command) (search rules) is)
    c.in-Err-read_task.answer old (g.met.T.Site.lawful c.args.site.now t) c.in-Err-read_task.ensures.early
    (c.in-Err-read_task.ensures.refused s)

pub returns-in-Err-read_task-clause-usage : goal.returns-in-Err-read_task-clause-usage
returns-in-Err-read_task-clause-usage g c words is e = absurd (subst IsOfParts e c.in-Err-read_task.ensures.early)

pub returns-in-Err-read_task-clause-no_command : goal.returns-in-Err-read_task-clause-no_command
returns-in-Err-read_task-clause-no_command g c words is none =
    no_word (read_as words c.args.found (Some c.in-Ok-Some.command) (search rules) is) none

pub returns-in-Err-read_task-clause-cause : goal.returns-in-Err-read_task-clause-cause
returns-in-Err-read_task-clause-cause g c =
    let site = g.T.Site.faults c.args.site.now in
    record {
      source = c.in-Err-read_task.ensures.cause;
      site = by_site site site c.in-Err-read_task.answer
          (λ e. absurd (subst IsOfParts e c.in-Err-read_task.ensures.early)) (λ other. refl);
    }

pub returns-in-Err-read_task-clause-once : goal.returns-in-Err-read_task-clause-once
returns-in-Err-read_task-clause-once g c words which job is s t asks tells =
    read_none job _ (g.T.Site.bytes_read c.args.site.now 0)

pub returns-in-Err-read_task-clause-reads : goal.returns-in-Err-read_task-clause-reads
returns-in-Err-read_task-clause-reads g c set tells = (tells, λ other. refl)

pub returns-in-Err-read_task-clause-parts : goal.returns-in-Err-read_task-clause-parts
returns-in-Err-read_task-clause-parts g c words is s =
    let call = c.read_task.ensures in
    took_parts (command_of words) c.in-Ok-Some.command c.in-Err-read_task.answer
    (g.S.Source.left c.args.source.now) (g.S.Source.left c.read_task.new.source)
    (read_as words c.args.found (Some c.in-Ok-Some.command) (search rules) is) c.in-Err-read_task.ensures.early
    (call.schedule_unread s) (call.messages s)

pub returns-in-Err-read_task-clause-order : goal.returns-in-Err-read_task-clause-order
returns-in-Err-read_task-clause-order g c words is s =
    let call = c.read_task.ensures in
    record {
      words = λ none p. no_word (read_as words c.args.found (Some c.in-Ok-Some.command) (search rules) is) none;
      scripts = λ answer bad. call.scripts_unread answer s bad;
      schedule = λ none. call.no_job s none;
      messages = λ none. call.messages s;
    }

-- ---- the words are no command

pub returns-in-Ok-None-clause-served : goal.returns-in-Ok-None-clause-served
returns-in-Ok-None-clause-served g c words is s t =
    let old = g.T.Site.disk c.args.site.now in
    served_usage (given_of (kinds_of c.args.exits.now) words (g.S.Source.left c.args.source.now) old) old
    (read_as words c.args.found None (search rules) is)

pub returns-in-Ok-None-clause-usage : goal.returns-in-Ok-None-clause-usage
returns-in-Ok-None-clause-usage g c words is e = read_as words c.args.found None (search rules) is

pub returns-in-Ok-None-clause-once : goal.returns-in-Ok-None-clause-once
returns-in-Ok-None-clause-once g c words which job is s t asks tells =
    read_none job _ (g.T.Site.bytes_read c.args.site.now 0)

pub returns-in-Ok-None-clause-reads : goal.returns-in-Ok-None-clause-reads
returns-in-Ok-None-clause-reads g c set tells = (tells, λ other. refl)

pub returns-in-Ok-None-clause-parts : goal.returns-in-Ok-None-clause-parts
returns-in-Ok-None-clause-parts g c words is s =
    took_nothing (command_of words) status.Usage (g.S.Source.left c.args.source.now) (λ done. cc)

pub returns-in-Ok-None-clause-order : goal.returns-in-Ok-None-clause-order
returns-in-Ok-None-clause-order g c words is s =
    order_kept (kinds_of c.args.exits.now) (command_of words) (g.S.Source.left c.args.source.now)

-- ---- no memory for the words

pub returns-in-Err-clause-served : goal.returns-in-Err-clause-served
returns-in-Err-clause-served g c words is s t =
    let old = g.T.Site.disk c.args.site.now in
    served_memory (given_of (kinds_of c.args.exits.now) words (g.S.Source.left c.args.source.now) old) old
    (g.met.T.Site.lawful c.args.site.now t)

pub returns-in-Err-clause-once : goal.returns-in-Err-clause-once
returns-in-Err-clause-once g c words which job is s t asks tells =
    read_none job _ (g.T.Site.bytes_read c.args.site.now 0)

pub returns-in-Err-clause-reads : goal.returns-in-Err-clause-reads
returns-in-Err-clause-reads g c set tells = (tells, λ other. refl)

pub returns-in-Err-clause-parts : goal.returns-in-Err-clause-parts
returns-in-Err-clause-parts g c words is s =
    took_nothing (command_of words) status.NoMemory (g.S.Source.left c.args.source.now) (λ done. cc)

pub returns-in-Err-clause-order : goal.returns-in-Err-clause-order
returns-in-Err-clause-order g c words is s =
    order_kept (kinds_of c.args.exits.now) (command_of words) (g.S.Source.left c.args.source.now)
