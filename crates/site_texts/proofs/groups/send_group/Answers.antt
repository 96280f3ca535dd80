use Rattle.std.proofs.Common.{◌≡◌, ◌∙◌, ap, refl, subst, inr, ◌+◌, List, [], ◌++◌}
use Rattle.log_groups.specs.Reads.{HasGroup}
use Rattle.fp_restart.proofs.Groups.{stands_further}
use Rattle.fp_show.specs.GroupText.{group_text}
use Rattle.site_texts.specs.Sent.{HasSent, HasSentPart}
use Rattle.site_texts.proofs.Told.{part_on, part_whole, sent_on, sent_stays}
use Rattle.site_texts.proofs.groups.send_group.Given as given
use Rattle.site_texts.proofs.groups.send_group.Goals as goal

-- a site that tells what it holds has no group that goes nowhere
pub returns-then-not-stands_behind-clause-damaged : goal.returns-then-not-stands_behind-clause-damaged
returns-then-not-stands_behind-clause-damaged g c set at t e =
    let bytes = (g.T.Site.disk c.args.site.now).contents 0 in
    let has : HasGroup bytes c.args.place.at c.in-Some.group.entries c.in-Some.group.next =
    rw c.in-Some.is at (c.in_ok-group.ensures.some t) in
    let far = stands_further bytes c.args.place.at c.in-Some.group.entries c.in-Some.group.next has
    ((g.met.T.Site.lawful c.args.site.now t).bounded 0) in
    absurd (c.stands_behind.ensures.not c.if-not-stands_behind.true far.0 far.1 far.2)

pub returns-in_err-send-clause-part : goal.returns-in_err-send-clause-part
returns-in_err-send-clause-part g c t =
    let d0 = g.T.Site.disk c.args.site.now in
    let d1 = g.T.Site.disk c.group_at.new.site in
    let d2 = g.T.Site.disk c.send.new.self in
    let t1 = c.group_at.ensures.site.still_told t in
    let its = c.in-Some.group in
    let text = group_text c.args.place.groups c.args.place.entries its.entries in
    let has : HasGroup (d0.contents 0) c.args.place.at its.entries its.next = rw c.in-Some.is at
    (c.in_ok-group.ensures.some t) in
    let same : c.as_slice.result.now ≡ text = c.as_slice.ensures ∙ c.in_ok-text.ensures in
    let part = c.in_err-send.ensures.part t1 in
    inr (record {
      entries = its.entries;
      next = its.next;
      group = has;
      sent = part_on d0 d1 d2 [] text (g.met.T.Site.lawful c.args.site.now t)
          (g.met.T.Site.lawful c.group_at.new.site t1)
          (sent_stays d0 d1 (c.group_at.ensures.stays t))
          (subst (HasSentPart d1 d2) same
          (record {
            count = part.0;
            sent = part.1;
            contents = c.send.ensures.same t1;
            crash = c.send.ensures.crash t1;
          }));
    })

pub returns-clause-some : goal.returns-clause-some
returns-clause-some g c t =
    let d0 = g.T.Site.disk c.args.site.now in
    let d1 = g.T.Site.disk c.group_at.new.site in
    let d2 = g.T.Site.disk c.send.new.self in
    let t1 = c.group_at.ensures.site.still_told t in
    let its = c.in-Some.group in
    let text = group_text c.args.place.groups c.args.place.entries its.entries in
    let has : HasGroup (d0.contents 0) c.args.place.at its.entries its.next = rw c.in-Some.is at
    (c.in_ok-group.ensures.some t) in
    let same : c.as_slice.result.now ≡ text = c.as_slice.ensures ∙ c.in_ok-text.ensures in
    record {
      entries = its.entries;
      group = has;
      groups = refl;
      count = ap (λ n. c.args.place.entries + n) c.len.ensures;
      sent = sent_on d0 d1 d2 [] text (g.met.T.Site.lawful c.args.site.now t)
          (g.met.T.Site.lawful c.group_at.new.site t1)
          (sent_stays d0 d1 (c.group_at.ensures.stays t))
          (subst (HasSent d1 d2) same
          (record {
            sent = c.in_ok-send.ensures.sent t1;
            contents = c.send.ensures.same t1;
            crash = c.send.ensures.crash t1;
          }));
    }

pub returns-clause-part : goal.returns-clause-part
returns-clause-part g c t =
    let d0 = g.T.Site.disk c.args.site.now in
    let d2 = g.T.Site.disk c.send.new.self in
    let one = returns-clause-some g c t in
    inr (record {
      entries = one.entries;
      next = c.in-Some.group.next;
      group = one.group;
      sent = part_whole d0 d2 (group_text c.args.place.groups c.args.place.entries one.entries) one.sent;
    })
