use Rattle.std.proofs.Common.{◌≡◌, ◌∙◌, refl, subst}
use Rattle.fp_site.specs.Disk.{Stays}
use Rattle.fp_site.proofs.Runs.{elapses_none}
use Rattle.site_audit.specs.declared.fault.AuditFault.{AuditFault}
use Rattle.site_audit.specs.declared.fault.AuditFault.TheVariants as fault
use Rattle.site_audit.specs.Verdicts.{legal_text}
use Rattle.site_texts.specs.Sent.{HasSent, HasSentPart}
use Rattle.site_texts.proofs.Told.{part_none, part_whole, sent_none}
use Rattle.site_audit.proofs.Verdict.{with_any}
use Rattle.site_audit.proofs.auditing.send_legal.Goals as goal

pub returns-in_err-text-clause-part : goal.returns-in_err-text-clause-part
returns-in_err-text-clause-part g c t =
    let d = g.T.Site.disk c.args.site.now in part_none d d (legal_text c.args.count) (sent_none d)

pub returns-in_err-text-clause-silent : goal.returns-in_err-text-clause-silent
returns-in_err-text-clause-silent g c t =
    let d = g.T.Site.disk c.args.site.now in
    let P : AuditFault → Type 0 = λ why. ¬ (why ≡ fault.SiteFault) → Stays d d in
    with_any c.from_residual.result P
    (λ why other. record { contents = refl; sent = refl; crash = elapses_none d d.may_leave })

pub returns-in_err-send-clause-part : goal.returns-in_err-send-clause-part
returns-in_err-send-clause-part g c t =
    let d0 = g.T.Site.disk c.args.site.now in
    let d1 = g.T.Site.disk c.send.new.self in
    let same : c.as_slice.result.now ≡ legal_text c.args.count = c.as_slice.ensures ∙ c.in_ok-text.ensures in
    let part = c.in_err-send.ensures.part t in
    subst (HasSentPart d0 d1) same
    (record { count = part.0; sent = part.1; contents = c.send.ensures.same t; crash = c.send.ensures.crash t })

pub returns-clause-sent : goal.returns-clause-sent
returns-clause-sent g c t =
    let d0 = g.T.Site.disk c.args.site.now in
    let d1 = g.T.Site.disk c.send.new.self in
    let same : c.as_slice.result.now ≡ legal_text c.args.count = c.as_slice.ensures ∙ c.in_ok-text.ensures in
    subst (HasSent d0 d1) same
    (record { sent = c.in_ok-send.ensures.sent t; contents = c.send.ensures.same t; crash = c.send.ensures.crash t })

pub returns-clause-part : goal.returns-clause-part
returns-clause-part g c t =
    part_whole (g.T.Site.disk c.args.site.now) (g.T.Site.disk c.send.new.self) (legal_text c.args.count)
    (returns-clause-sent g c t)
