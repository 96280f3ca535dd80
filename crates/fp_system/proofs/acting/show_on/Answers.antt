use Rattle.std.proofs.Common.{◌≡◌, ◌⊎◌, sym, subst}
use Rattle.fp_model.specs.LogText.{Front}
use Rattle.site_texts.specs.Texts.{ReadsOnce}
use Rattle.command_tasks.specs.Answers.{MayStandIn}
use Rattle.command_tasks.specs.Causes.{IsCausedBySite}
use Rattle.fp_system.specs.Gives.{Shown}
use Rattle.fp_system.specs.Table.{ByLog}
use Rattle.command_tasks.specs.declared.status.Status.{Status}
use Rattle.command_tasks.specs.declared.status.Status.TheVariants.{Done}
use Rattle.fp_system.specs.inside.Answers.{IsOfSite}
use Rattle.command_tasks.specs.Setups.{job_of}
use Rattle.fp_system.proofs.CauseLemmas.{done_by_site, done_of_site}
use Rattle.fp_system.proofs.SentTexts.{show_due, shown_for}
use Rattle.fp_system.proofs.acting.show_on.Goals as goal

pub returns-clause-due : goal.returns-clause-due
returns-clause-due g c t =
    let old = g.T.Site.disk c.args.site.now in
    let call = c.show.ensures in
    subst (λ (answer : Status). ByLog (job_of c.args.setup.now) (old.contents 0) (λ behind. behind ≡ Done) answer
    ⊎ MayStandIn answer) (sym c.answer_to.ensures)
    (show_due c.args.setup.now c.requires old (g.T.Site.disk c.show.new.site) c.show.result (call.shown t)
    (call.foreign t) (λ set at. call.damaged set at t))

pub returns-clause-shown : goal.returns-clause-shown
returns-clause-shown g c t =
    let setup = c.args.setup.now in
    let old = g.T.Site.disk c.args.site.now in
    let new = g.T.Site.disk c.show.new.site in
    let call = c.show.ensures in
    subst (λ (answer : Status). Shown (job_of setup) answer old new) (sym c.answer_to.ensures)
    (shown_for setup c.requires old new c.show.result (call.shown t) (call.rests t) (call.sends t)
    (λ format entries last. call.means format setup.scripts.scripts entries last t))

pub returns-clause-of : goal.returns-clause-of
returns-clause-of g c = subst IsOfSite (sym c.answer_to.ensures) (done_of_site c.show.result)

pub returns-clause-cause : goal.returns-clause-cause
returns-clause-cause g c =
    let before = g.T.Site.faults c.args.site.now in
    let now = g.T.Site.faults c.show.new.site in
    subst (IsCausedBySite before now) (sym c.answer_to.ensures)
    (done_by_site before now c.show.result c.show.ensures.cause c.show.ensures.stayed)

pub returns-clause-once : goal.returns-clause-once
returns-clause-once g c t tells =
    subst (λ (f : Front). ReadsOnce f ((g.T.Site.disk c.args.site.now).contents 0)
    (g.T.Site.bytes_read c.args.site.now 0) (g.T.Site.bytes_read c.show.new.site 0)) c.requires.front
    (c.show.ensures.once t tells)
