use Rattle.std.proofs.Common.{◌≡◌, ◌∙◌, ◌⊎◌, sym, subst}
use Rattle.command_tasks.specs.Answers.{MayStandIn}
use Rattle.command_tasks.specs.Causes.{IsCausedBySite}
use Rattle.command_tasks.specs.declared.status.Status.{Status}
use Rattle.command_tasks.specs.declared.status.Status.TheVariants.{Done}
use Rattle.fp_system.specs.inside.Acted.{Made}
use Rattle.fp_system.specs.inside.Answers.{IsOfSite}
use Rattle.command_tasks.specs.Setups.{job_of}
use Rattle.fp_system.proofs.CauseLemmas.{done_by_site, done_of_site, memory_done}
use Rattle.fp_system.proofs.Making.{made_due, made_for}
use Rattle.fp_system.proofs.SentTexts.{read_one}
use Rattle.fp_system.proofs.acting.define_on.Goals as goal

pub returns-clause-due : goal.returns-clause-due
returns-clause-due g c =
    subst (λ (answer : Status). (answer ≡ Done) ⊎ MayStandIn answer) (sym c.answer_to.ensures)
    (made_due c.define.result c.define.ensures.never)

pub returns-clause-made : goal.returns-clause-made
returns-clause-made g c t =
    let old = g.T.Site.disk c.args.site.now in
    let new = g.T.Site.disk c.define.new.site in
    let call = c.define.ensures in
    subst (λ (answer : Status). Made (job_of c.args.setup.now) answer old new) (sym c.answer_to.ensures)
    (made_for c.args.setup.now c.requires old new c.define.result (call.made t) (call.text t) (call.only t)
    (call.crash t))

pub returns-clause-of : goal.returns-clause-of
returns-clause-of g c = subst IsOfSite (sym c.answer_to.ensures) (done_of_site c.define.result)

pub returns-clause-cause : goal.returns-clause-cause
returns-clause-cause g c =
    let before = g.T.Site.faults c.args.site.now in
    let now = g.T.Site.faults c.define.new.site in
    subst (IsCausedBySite before now) (sym c.answer_to.ensures)
    (done_by_site before now c.define.result c.define.ensures.cause c.define.ensures.stayed)

pub returns-clause-untouched : goal.returns-clause-untouched
returns-clause-untouched g c none =
    c.define.ensures.untouched (memory_done c.define.result (sym c.answer_to.ensures ∙ none))

pub returns-clause-once : goal.returns-clause-once
returns-clause-once g c t tells =
    read_one (job_of c.args.setup.now) ((g.T.Site.disk c.args.site.now).contents 0)
    (g.T.Site.bytes_read c.args.site.now 0) (g.T.Site.bytes_read c.define.new.site 0) (c.define.ensures.few tells)
