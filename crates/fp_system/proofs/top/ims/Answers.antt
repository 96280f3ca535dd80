use Rattle.std.proofs.Common.{[], map, string_bytes}
use Rattle.command_words.specs.declared.words.Command.TheVariants as command
use Rattle.fp_system.specs.Table.{given}
use Rattle.fp_system.proofs.Calls.{defined}
use Rattle.fp_system.proofs.top.ims.Goals as goal

-- ---- when each answer comes

pub returns-clause-usage : goal.returns-clause-usage
returns-clause-usage g c = c.obey.ensures.usage (map string_bytes c.args.words.now) c.command_of.ensures

pub returns-clause-no_command : goal.returns-clause-no_command
returns-clause-no_command g c = c.obey.ensures.no_command (map string_bytes c.args.words.now) c.command_of.ensures

pub returns-clause-due : goal.returns-clause-due
returns-clause-due g c s t = (c.obey.ensures.served (map string_bytes c.args.words.now) c.command_of.ensures s t).due

-- ---- what the commands give, and what they read

pub returns-clause-defined : goal.returns-clause-defined
returns-clause-defined g c s t =
    defined (given c.args.exits.now c.args.words.now (g.S.Source.left c.args.source.now)
    (g.T.Site.disk c.args.site.now)) c.obey.result (g.T.Site.disk c.args.site.now) (g.T.Site.disk c.obey.new.site)
    (c.obey.ensures.served (map string_bytes c.args.words.now) c.command_of.ensures s t)

pub returns-clause-ran : goal.returns-clause-ran
returns-clause-ran g c job events s t asks has =
    (c.obey.ensures.served (map string_bytes c.args.words.now) c.command_of.ensures s t).gives command.Run job events
    asks has

pub returns-clause-shown : goal.returns-clause-shown
returns-clause-shown g c job s t asks =
    (c.obey.ensures.served (map string_bytes c.args.words.now) c.command_of.ensures s t).gives command.Show job [] asks
    tt

pub returns-clause-logged : goal.returns-clause-logged
returns-clause-logged g c job s t asks =
    (c.obey.ensures.served (map string_bytes c.args.words.now) c.command_of.ensures s t).gives command.Log job [] asks
    tt

pub returns-clause-migrated : goal.returns-clause-migrated
returns-clause-migrated g c job s t asks =
    (c.obey.ensures.served (map string_bytes c.args.words.now) c.command_of.ensures s t).gives command.Migrate job []
    asks tt

pub returns-clause-audited : goal.returns-clause-audited
returns-clause-audited g c job s t asks =
    (c.obey.ensures.served (map string_bytes c.args.words.now) c.command_of.ensures s t).gives command.Audit job [] asks
    tt

pub returns-clause-once : goal.returns-clause-once
returns-clause-once g c which job =
    c.obey.ensures.once (map string_bytes c.args.words.now) which job c.command_of.ensures

-- ---- what stays

pub returns-clause-untouched : goal.returns-clause-untouched
returns-clause-untouched g c = c.obey.ensures.untouched (map string_bytes c.args.words.now) c.command_of.ensures

pub returns-clause-no_job : goal.returns-clause-no_job
returns-clause-no_job g c = c.obey.ensures.no_job (map string_bytes c.args.words.now) c.command_of.ensures

pub returns-clause-parts : goal.returns-clause-parts
returns-clause-parts g c = c.obey.ensures.parts (map string_bytes c.args.words.now) c.command_of.ensures

pub returns-clause-order : goal.returns-clause-order
returns-clause-order g c = c.obey.ensures.order (map string_bytes c.args.words.now) c.command_of.ensures

pub returns-clause-cause : goal.returns-clause-cause
returns-clause-cause g c = c.obey.ensures.cause

pub returns-clause-reads : goal.returns-clause-reads
returns-clause-reads g c = c.obey.ensures.reads
