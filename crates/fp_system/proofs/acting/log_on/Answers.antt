use Rattle.std.proofs.Common.{◌⊎◌, sym, subst}
use Rattle.fp_model.specs.LogText.{Front}
use Rattle.site_texts.specs.Texts.{ReadsOnce}
use Rattle.command_tasks.specs.Answers.{MayStandIn}
use Rattle.command_tasks.specs.Causes.{IsCausedBySite}
use Rattle.fp_system.specs.Gives.{Logged}
use Rattle.fp_system.specs.Table.{ByGroups}
use Rattle.command_tasks.specs.declared.status.Status.{Status}
use Rattle.fp_system.specs.inside.Answers.{IsOfSite}
use Rattle.command_tasks.specs.Setups.{job_of}
use Rattle.fp_system.proofs.CauseLemmas.{done_by_site, done_of_site}
use Rattle.fp_system.proofs.SentTexts.{log_due, logged_for}
use Rattle.fp_system.proofs.acting.log_on.Goals as goal

pub returns-clause-due : goal.returns-clause-due
returns-clause-due g c t =
    let old = g.T.Site.disk c.args.site.now in
    let call = c.log.ensures in
    subst (λ (answer : Status). ByGroups (job_of c.args.setup.now) (old.contents 0) answer ⊎ MayStandIn answer)
    (sym c.answer_to.ensures)
    (log_due c.args.setup.now c.requires old (g.T.Site.disk c.log.new.site) c.log.result (call.shown t) (call.foreign t)
    (λ set at. call.damaged set at t))

pub returns-clause-logged : goal.returns-clause-logged
returns-clause-logged g c t =
    let old = g.T.Site.disk c.args.site.now in
    let new = g.T.Site.disk c.log.new.site in
    let call = c.log.ensures in
    subst (λ (answer : Status). Logged (job_of c.args.setup.now) answer old new) (sym c.answer_to.ensures)
    (logged_for c.args.setup.now c.requires old new c.log.result (call.shown t) (λ set at. call.damaged set at t)
    (call.sends t))

pub returns-clause-of : goal.returns-clause-of
returns-clause-of g c = subst IsOfSite (sym c.answer_to.ensures) (done_of_site c.log.result)

pub returns-clause-cause : goal.returns-clause-cause
returns-clause-cause g c =
    let before = g.T.Site.faults c.args.site.now in
    let now = g.T.Site.faults c.log.new.site in
    subst (IsCausedBySite before now) (sym c.answer_to.ensures)
    (done_by_site before now c.log.result c.log.ensures.cause c.log.ensures.stayed)

pub returns-clause-once : goal.returns-clause-once
returns-clause-once g c t tells =
    subst (λ (f : Front). ReadsOnce f ((g.T.Site.disk c.args.site.now).contents 0)
    (g.T.Site.bytes_read c.args.site.now 0) (g.T.Site.bytes_read c.log.new.site 0)) c.requires.front
    (c.log.ensures.once t tells)
