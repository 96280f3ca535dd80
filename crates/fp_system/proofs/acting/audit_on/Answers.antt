use Rattle.std.proofs.Common.{◌≡◌, ◌⊎◌, sym, subst, true, List}
use Rattle.std.specs.List.{AllByRecursion}
use Rattle.fp_exits.specs.Kinds.{has_kind, kinds_of}
use Rattle.fp_model.specs.declared.definitions.DedbDef.{DedbDef}
use Rattle.fp_model.specs.LogText.{Front}
use Rattle.site_texts.specs.Texts.{ReadsOnce}
use Rattle.command_tasks.specs.Answers.{MayStandIn}
use Rattle.command_tasks.specs.Causes.{IsCausedBySite}
use Rattle.fp_system.specs.Gives.{Audited}
use Rattle.fp_system.specs.Table.{ByEntries}
use Rattle.command_tasks.specs.declared.status.Status.{Status}
use Rattle.fp_system.specs.inside.Answers.{IsOfSite}
use Rattle.command_tasks.specs.Setups.{job_of}
use Rattle.fp_system.proofs.Audits.{audit_due, audited_for}
use Rattle.fp_system.proofs.CauseLemmas.{audit_by_site, audit_of_site}
use Rattle.txn_lang.proofs.Fitting.{what_was_read_suits}
use Rattle.fp_system.proofs.acting.audit_on.Goals as goal

pub audit-requires : goal.audit-requires
audit-requires g c = record {
  fits = c.requires.fits;
  spread =
      subst (λ (dedbs : List DedbDef).
      AllByRecursion (λ (dedb : DedbDef). has_kind (kinds_of c.args.exits.now).spreaders dedb.randomizer ≡ true) dedbs)
      (sym c.requires.no_dedbs) tt;
  can = record {
    good = c.requires.are;
    suit = what_was_read_suits c.args.setup.now.defs c.args.setup.now.scripts.text c.args.setup.now.scripts.scripts
        c.requires.scripts;
    cheap = c.requires.cheap;
  };
}

pub returns-clause-due : goal.returns-clause-due
returns-clause-due g c t =
    let old = g.T.Site.disk c.args.site.now in
    let call = c.audit.ensures in
    subst (λ (answer : Status). ByEntries (job_of c.args.setup.now) (old.contents 0) answer ⊎ MayStandIn answer)
    (sym c.audit_status.ensures)
    (audit_due c.args.setup.now c.requires old (g.T.Site.disk c.audit.new.site) c.audit.result (call.legal t)
    (call.foreign t) (λ at. call.damaged at t) (λ entry. call.illegal entry t))

pub returns-clause-audited : goal.returns-clause-audited
returns-clause-audited g c t =
    let old = g.T.Site.disk c.args.site.now in
    let new = g.T.Site.disk c.audit.new.site in
    let call = c.audit.ensures in
    subst (λ (answer : Status). Audited (job_of c.args.setup.now) answer old new) (sym c.audit_status.ensures)
    (audited_for c.args.setup.now c.requires old new c.audit.result (call.legal t) (call.sent t) (call.silent t)
    (call.sends t) (λ format entry entries. call.never format entry entries t)
    (λ format entries. call.means format entries t))

pub returns-clause-of : goal.returns-clause-of
returns-clause-of g c = subst IsOfSite (sym c.audit_status.ensures) (audit_of_site c.audit.result)

pub returns-clause-cause : goal.returns-clause-cause
returns-clause-cause g c =
    let before = g.T.Site.faults c.args.site.now in
    let now = g.T.Site.faults c.audit.new.site in
    subst (IsCausedBySite before now) (sym c.audit_status.ensures)
    (audit_by_site before now c.audit.result c.audit.ensures.cause c.audit.ensures.stayed)

pub returns-clause-once : goal.returns-clause-once
returns-clause-once g c t tells =
    subst (λ (f : Front). ReadsOnce f ((g.T.Site.disk c.args.site.now).contents 0)
    (g.T.Site.bytes_read c.args.site.now 0) (g.T.Site.bytes_read c.audit.new.site 0)) c.requires.front
    (c.audit.ensures.once t tells)
