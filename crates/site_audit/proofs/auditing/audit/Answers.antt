use Rattle.std.proofs.Common.{◌≡◌, rules}
use Rattle.fp_site.specs.Disk.{Stays}
use Rattle.log_groups.specs.Images.{as_front}
use Rattle.site_audit.specs.declared.fault.AuditFault.{AuditFault}
use Rattle.site_audit.specs.declared.fault.AuditFault.TheVariants as fault
use Rattle.site_audit.specs.Verdicts.{legal_text}
use Rattle.site_audit.proofs.Logs.{sound_count, sound_not_illegal}
use Rattle.site_audit.proofs.Verdict.{no_verdict, verdict_part, verdict_whole, with_any}
use Rattle.site_audit.proofs.auditing.audit.Goals as goal

-- ---- where the log wasn't read to its end

pub returns-in_err-end-clause-sends : goal.returns-in_err-end-clause-sends
returns-in_err-end-clause-sends g c t =
    no_verdict c.args.defs.now c.args.scripts.now.scripts (as_front c.args.front.now) (g.T.Site.disk c.args.site.now)
    (g.T.Site.disk c.read_log.new.site) (c.read_log.ensures.stays t)

pub returns-in_err-end-clause-silent : goal.returns-in_err-end-clause-silent
returns-in_err-end-clause-silent g c t =
    let P : AuditFault → Type 0 = λ why. ¬ (why ≡ fault.SiteFault)
    → Stays (g.T.Site.disk c.args.site.now) (g.T.Site.disk c.read_log.new.site) in
    with_any c.from_residual.result P (λ why other. c.read_log.ensures.stays t)

pub returns-in_err-end-clause-illegal : goal.returns-in_err-end-clause-illegal
returns-in_err-end-clause-illegal g c entry t is = absurd (c.read_log.ensures.never entry (search rules))

pub returns-in_err-end-clause-never : goal.returns-in_err-end-clause-never
returns-in_err-end-clause-never g c format entry entries t sound is = c.read_log.ensures.never entry (search rules)

-- ---- where an entry isn't legal

pub returns-in-Some-clause-sends : goal.returns-in-Some-clause-sends
returns-in-Some-clause-sends g c t =
    no_verdict c.args.defs.now c.args.scripts.now.scripts (as_front c.args.front.now) (g.T.Site.disk c.args.site.now)
    (g.T.Site.disk c.read_log.new.site) (c.read_log.ensures.stays t)

pub returns-in-Some-clause-silent : goal.returns-in-Some-clause-silent
returns-in-Some-clause-silent g c t = λ other. c.read_log.ensures.stays t

pub returns-in-Some-clause-illegal : goal.returns-in-Some-clause-illegal
returns-in-Some-clause-illegal g c entry t is =
    let here = c.in-Some.is in c.in_ok-end.ensures.illegal entry t cc

pub returns-in-Some-clause-never : goal.returns-in-Some-clause-never
returns-in-Some-clause-never g c format entry entries t sound is =
    sound_not_illegal c.args.defs.now c.args.scripts.now.scripts (as_front c.args.front.now)
    ((g.T.Site.disk c.args.site.now).contents 0) format entries sound entry
    (returns-in-Some-clause-illegal g c entry t is)

-- ---- where all are

pub returns-in_err-send_legal-in-None-clause-sends : goal.returns-in_err-send_legal-in-None-clause-sends
returns-in_err-send_legal-in-None-clause-sends g c t =
    let t1 = c.read_log.ensures.site.still_told t in
    verdict_part (g.T.Site.disk c.args.site.now) (g.T.Site.disk c.read_log.new.site) (g.T.Site.disk c.send_legal.new.site)
    (g.met.T.Site.lawful c.args.site.now t) (g.met.T.Site.lawful c.read_log.new.site t1) (c.read_log.ensures.stays t)
    c.args.defs.now c.args.scripts.now.scripts (as_front c.args.front.now) c.in_ok-end.end.entries
    (c.in_ok-end.ensures.legal t c.in-None.is) (c.send_legal.ensures.part t1)

pub returns-in_ok-send_legal-in-None-clause-sent : goal.returns-in_ok-send_legal-in-None-clause-sent
returns-in_ok-send_legal-in-None-clause-sent g c t =
    let t1 = c.read_log.ensures.site.still_told t in
    verdict_whole (g.T.Site.disk c.args.site.now) (g.T.Site.disk c.read_log.new.site)
    (g.T.Site.disk c.send_legal.new.site)
    (g.met.T.Site.lawful c.args.site.now t) (g.met.T.Site.lawful c.read_log.new.site t1) (c.read_log.ensures.stays t)
    (legal_text c.in_ok-end.end.entries) (c.in_ok-send_legal-in-None.ensures.sent t1)

pub returns-in_ok-send_legal-in-None-clause-sends : goal.returns-in_ok-send_legal-in-None-clause-sends
returns-in_ok-send_legal-in-None-clause-sends g c t =
    let t1 = c.read_log.ensures.site.still_told t in
    verdict_part (g.T.Site.disk c.args.site.now) (g.T.Site.disk c.read_log.new.site) (g.T.Site.disk c.send_legal.new.site)
    (g.met.T.Site.lawful c.args.site.now t) (g.met.T.Site.lawful c.read_log.new.site t1) (c.read_log.ensures.stays t)
    c.args.defs.now c.args.scripts.now.scripts (as_front c.args.front.now) c.in_ok-end.end.entries
    (c.in_ok-end.ensures.legal t c.in-None.is) (c.send_legal.ensures.part t1)

pub returns-in_ok-send_legal-in-None-clause-means : goal.returns-in_ok-send_legal-in-None-clause-means
returns-in_ok-send_legal-in-None-clause-means g c format entries t sound =
    sound_count c.args.defs.now c.args.scripts.now.scripts (as_front c.args.front.now)
    ((g.T.Site.disk c.args.site.now).contents 0) format entries sound c.in_ok-end.end.entries
    (c.in_ok-end.ensures.legal t c.in-None.is)
