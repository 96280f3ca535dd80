use Rattle.std.proofs.Common.{◌≡◌, ◌⊎◌, ◌∙◌, inl, inr, refl, sym, subst, ℕ, List}
use Rattle.command_tasks.specs.Answers.{MayStandIn}
use Rattle.fp_system.specs.Table as table
use Rattle.command_tasks.specs.declared.status.Status.{Status}
use Rattle.command_tasks.specs.declared.status.Status.TheVariants.{Done, NoMemory, SiteFault}
use Rattle.fp_system.specs.inside.Answers.{IsOfSite}
use Rattle.command_tasks.specs.Setups.{job_of}
use Rattle.fp_system.specs.Table.{ByLog, IsGood}
use Rattle.command_tasks.specs.Parts.{Job}
use Rattle.command_tasks.proofs.CauseLemmas.{site_since}
use Rattle.fp_system.proofs.Due.{judged_due}
use Rattle.fp_system.proofs.Migrations.{migrated_not, migrated_on, moved_not}
use Rattle.fp_system.proofs.Restarted.{log_behind, new_told, once_behind}
use Rattle.fp_system.proofs.acting.migrate_on.Goals as goal

-- ---- a log that wasn't read

pub returns-in-Err-clause-due : goal.returns-in-Err-clause-due
returns-in-Err-clause-due g c t =
    judged_due (job_of c.args.setup.now) ((g.T.Site.disk c.args.site.now).contents 0) (λ behind. behind ≡ Done)
    c.in-Err.fault (c.in-Err.ensures.refused t).due

pub returns-in-Err-clause-migrated : goal.returns-in-Err-clause-migrated
returns-in-Err-clause-migrated g c t =
    let job = job_of c.args.setup.now in
    let h = g.T.Site.disk c.args.site.now in
    let h1 = g.T.Site.disk c.restart_for.new.site in
    let same = c.restart_for.ensures.unchanged t in
    let undone = c.in-Err.ensures.fault.1 in
    migrated_not job c.in-Err.fault h h1 same (λ was. undone)
    (λ format earlier safe first. moved_not job format earlier c.in-Err.fault h h1 undone same.sent
    (c.in-Err.ensures.refused t).images same.crash)

pub returns-in-Err-clause-of : goal.returns-in-Err-clause-of
returns-in-Err-clause-of g c = c.in-Err.ensures.fault.0

-- ---- a log of format 2

pub returns-then-format-ne-OLD_FORMAT-clause-due : goal.returns-then-format-ne-OLD_FORMAT-clause-due
returns-then-format-ne-OLD_FORMAT-clause-due g c t = inl (table.good (c.in-Ok.ensures.ok t).good refl)

pub returns-then-format-ne-OLD_FORMAT-clause-migrated : goal.returns-then-format-ne-OLD_FORMAT-clause-migrated
returns-then-format-ne-OLD_FORMAT-clause-migrated g c t =
    let job = job_of c.args.setup.now in
    let h = g.T.Site.disk c.args.site.now in
    let h1 = g.T.Site.disk c.restart_for.new.site in
    let same = c.restart_for.ensures.unchanged t in
    let new = new_told job h h1 same.contents c.in-Ok.started.msdbs c.in-Ok.started.log c.in-Ok.started.lasts
    (c.in-Ok.ensures.ok t) (λ e. c.if-format-ne-OLD_FORMAT.true (c.format.ensures ∙ e)) in
    migrated_not job Done h h1 same (λ was done. new was) (λ format earlier safe first. absurd (new first))

pub returns-then-format-ne-OLD_FORMAT-clause-of : goal.returns-then-format-ne-OLD_FORMAT-clause-of
returns-then-format-ne-OLD_FORMAT-clause-of g c = (λ early. early, λ e. cc)

-- ---- a log of format 1

-- where it was sealed, or wasn't
sealed_due : (job : Job) (log : List ℕ) (answer : Status) → IsGood job log
    → (answer ≡ Done) ⊎ ((answer ≡ SiteFault) ⊎ (answer ≡ NoMemory))
    → ByLog job log (λ behind. behind ≡ Done) answer ⊎ MayStandIn answer
sealed_due job log answer it (inl done) = inl (table.good it done)
sealed_due job log answer it (inr (inl e)) = inr (subst MayStandIn (sym e) tt)
sealed_due job log answer it (inr (inr e)) = inr (subst MayStandIn (sym e) tt)

sealed_of_site : (answer : Status) → (answer ≡ Done) ⊎ ((answer ≡ SiteFault) ⊎ (answer ≡ NoMemory))
    → IsOfSite answer
sealed_of_site answer (inl e) = subst IsOfSite (sym e) (λ early. early, λ e. cc)
sealed_of_site answer (inr (inl e)) = subst IsOfSite (sym e) (λ early. early, λ e. cc)
sealed_of_site answer (inr (inr e)) = subst IsOfSite (sym e) (λ early. early, λ e. cc)

pub returns-clause-due : goal.returns-clause-due
returns-clause-due g c t =
    sealed_due (job_of c.args.setup.now) ((g.T.Site.disk c.args.site.now).contents 0) c.seal_format.result
    (c.in-Ok.ensures.ok t).good c.seal_format.ensures.outcome

pub returns-clause-migrated : goal.returns-clause-migrated
returns-clause-migrated g c t =
    let t1 = c.restart_for.ensures.site.still_told t in
    let on = c.seal_format.ensures in
    migrated_on (job_of c.args.setup.now) (g.T.Site.disk c.args.site.now) (g.T.Site.disk c.restart_for.new.site)
    (g.T.Site.disk c.seal_format.new.site) (g.met.T.Site.lawful c.restart_for.new.site t1)
    (c.restart_for.ensures.unchanged t) c.in-Ok.started.msdbs c.in-Ok.started.log c.in-Ok.started.lasts
    (c.in-Ok.ensures.ok t) (sym c.format.ensures ∙ c.if-format-ne-OLD_FORMAT.false) c.seal_format.result (on.only t1)
    (on.front t1) (λ front groups. on.seals front groups t1)

pub returns-clause-of : goal.returns-clause-of
returns-clause-of g c = sealed_of_site c.seal_format.result c.seal_format.ensures.outcome

pub returns-clause-cause : goal.returns-clause-cause
returns-clause-cause g c =
    site_since (g.T.Site.faults c.args.site.now) (g.T.Site.faults c.restart_for.new.site)
    (g.T.Site.faults c.seal_format.new.site) c.seal_format.result c.in-Ok.ensures.stayed c.seal_format.ensures.cause

pub returns-clause-once : goal.returns-clause-once
returns-clause-once g c t tells =
    let on = c.seal_format.ensures.reads 0 tells in once_behind on.1 (c.restart_for.ensures.once t on.0)

pub returns-clause-reads : goal.returns-clause-reads
returns-clause-reads g c = log_behind c.restart_for.ensures.reads c.seal_format.ensures.reads
