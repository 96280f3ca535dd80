use Rattle.std.proofs.Common.{◌≡◌, ◌+◌, ◌∙◌, ap, sym, arith, rules, ◌≤◌, length, subst}
use Rattle.fp_lists.proofs.ContinuedLemmas.{continued_both}
use Rattle.std.specs.Prelude.{slice_index}
use Rattle.log_groups.specs.Reads.{HasGroup}
use Rattle.fp_restart.proofs.Groups.{read_at_most, read_inside}
use Rattle.site_texts.specs.inside.Groups.{IsOneSent}
use Rattle.site_texts.proofs.Shown.{all_sent, are_sent_more, are_sent_none, sends_more, sent_to_damage}
use Rattle.site_texts.proofs.groups.send_groups.Given as given
use Rattle.site_texts.proofs.groups.send_groups.Goals as goal

pub returns-in_err-next-clause-sends : goal.returns-in_err-next-clause-sends
returns-in_err-next-clause-sends g c t =
    let it = c.loop-next.invariant in
    let t1 = it.site.still_told t in
    sends_more c.args.first c.loop-next.place (g.T.Site.disk c.args.site.now) (g.T.Site.disk c.loop-next.site)
    (g.T.Site.disk c.send_group.new.site) (g.met.T.Site.lawful c.args.site.now t)
    (g.met.T.Site.lawful c.loop-next.site t1) (it.sent t) (c.send_group.ensures.part t1)

pub returns-in_err-next-clause-damaged : goal.returns-in_err-next-clause-damaged
returns-in_err-next-clause-damaged g c set at t is =
    let it = c.loop-next.invariant in
    let t1 = it.site.still_told t in
    let bad = c.send_group.ensures.damaged set at t1 (search rules) in (
      bad.0,
      sent_to_damage c.args.first at c.loop-next.place (g.T.Site.disk c.args.site.now) (g.T.Site.disk c.loop-next.site)
          (g.T.Site.disk c.send_group.new.site) (it.sent t) bad.1 bad.2 bad.3,
    )

pub returns-in_default-clause-sends : goal.returns-in_default-clause-sends
returns-in_default-clause-sends g c t =
    let it = c.loop-next.invariant in
    let t1 = it.site.still_told t in
    sends_more c.args.first c.loop-next.place (g.T.Site.disk c.args.site.now) (g.T.Site.disk c.loop-next.site)
    (g.T.Site.disk c.send_group.new.site) (g.met.T.Site.lawful c.args.site.now t)
    (g.met.T.Site.lawful c.loop-next.site t1) (it.sent t) (c.send_group.ensures.part t1)

pub loop-next-preserved : goal.loop-next-preserved
loop-next-preserved g c =
    let it = c.loop-next.invariant in
    let call = c.send_group.ensures in
    record {
      within = search rules;
      groups = search rules;
      entries = search rules;
      sent = λ t.
          let t1 = it.site.still_told t in
          let one : IsOneSent c.loop-next.place c.in-Some.next (g.T.Site.disk c.loop-next.site)
          (g.T.Site.disk c.send_group.new.site) = rw c.in-Some.is at (c.in_ok-next.ensures.some t1) in
          are_sent_more c.args.first c.loop-next.place c.in-Some.next (g.T.Site.disk c.args.site.now)
          (g.T.Site.disk c.loop-next.site) (g.T.Site.disk c.send_group.new.site)
          (g.met.T.Site.lawful c.args.site.now t) (g.met.T.Site.lawful c.loop-next.site t1) (it.sent t) one;
      calm = search rules ∙ it.calm;
      only_log = λ set h. let after = call.only_log set h in let earlier = it.only_log set after.0 in
          (earlier.0, λ other. after.1 other ∙ earlier.1 other);
      read = λ told.
          let so_far = it.read (call.only_log 0 told).0 in
          let here : g.T.Site.bytes_read c.send_group.new.site 0 + c.loop-next.place.at ≡ g.T.Site.bytes_read
          c.loop-next.site 0 + c.in-Some.next.at = rw c.in-Some.is at (c.in_ok-next.ensures.count told) in
          omega (arith, so_far, here);
      site = continued_both g.T.Site.told g.T.Site.faults g.T.Site.holds g.T.Site.keeps _ _ _ it.site call.site;
    }

-- ---- what is read

pub returns-in_err-next-clause-read : goal.returns-in_err-next-clause-read
returns-in_err-next-clause-read g c groups gate t whole told =
    let it = c.loop-next.invariant in
    let call = c.send_group.ensures in
    let t1 = it.site.still_told t in
    let bytes = (g.T.Site.disk c.args.site.now).contents 0 in
    let so_far = it.sent t in
    let same = ap (λ f. f 0) so_far.sent.contents in
    read_at_most bytes c.args.first c.loop-next.place.at so_far.groups (g.T.Site.bytes_read c.args.site.now 0)
    (g.T.Site.bytes_read c.loop-next.site 0) (g.T.Site.bytes_read c.send_group.new.site 0) so_far.holds
    (it.read (call.only_log 0 told).0) gate groups whole
    (λ entries end has. call.most entries end t1
    (subst (λ l. HasGroup l c.loop-next.place.at entries end) (sym same) has) told)
    (λ closed. call.one t1 (λ is. closed (ap (λ l. slice_index l c.loop-next.place.at) (sym same) ∙ is)) told)

pub returns-in_err-next-clause-once : goal.returns-in_err-next-clause-once
returns-in_err-next-clause-once g c t told =
    let it = c.loop-next.invariant in
    let call = c.send_group.ensures in
    let bytes = (g.T.Site.disk c.args.site.now).contents 0 in
    let so_far = it.sent t in
    let same = ap (λ f. f 0) so_far.sent.contents in
    read_inside bytes c.args.first c.loop-next.place.at so_far.groups (g.T.Site.bytes_read c.args.site.now 0)
    (g.T.Site.bytes_read c.loop-next.site 0) (g.T.Site.bytes_read c.send_group.new.site 0) so_far.holds
    (it.read (call.only_log 0 told).0)
    (let few = call.inside (it.site.still_told t) told in omega (arith, few, ap length same))

pub returns-in_default-clause-read : goal.returns-in_default-clause-read
returns-in_default-clause-read g c groups gate t whole told =
    let it = c.loop-next.invariant in
    let call = c.send_group.ensures in
    let t1 = it.site.still_told t in
    let bytes = (g.T.Site.disk c.args.site.now).contents 0 in
    let so_far = it.sent t in
    let same = ap (λ f. f 0) so_far.sent.contents in
    read_at_most bytes c.args.first c.loop-next.place.at so_far.groups (g.T.Site.bytes_read c.args.site.now 0)
    (g.T.Site.bytes_read c.loop-next.site 0) (g.T.Site.bytes_read c.send_group.new.site 0) so_far.holds
    (it.read (call.only_log 0 told).0) gate groups whole
    (λ entries end has. call.most entries end t1
    (subst (λ l. HasGroup l c.loop-next.place.at entries end) (sym same) has) told)
    (λ closed. call.one t1 (λ is. closed (ap (λ l. slice_index l c.loop-next.place.at) (sym same) ∙ is)) told)

pub returns-in_default-clause-once : goal.returns-in_default-clause-once
returns-in_default-clause-once g c t told =
    let it = c.loop-next.invariant in
    let call = c.send_group.ensures in
    let bytes = (g.T.Site.disk c.args.site.now).contents 0 in
    let so_far = it.sent t in
    let same = ap (λ f. f 0) so_far.sent.contents in
    read_inside bytes c.args.first c.loop-next.place.at so_far.groups (g.T.Site.bytes_read c.args.site.now 0)
    (g.T.Site.bytes_read c.loop-next.site 0) (g.T.Site.bytes_read c.send_group.new.site 0) so_far.holds
    (it.read (call.only_log 0 told).0)
    (let few = call.inside (it.site.still_told t) told in omega (arith, few, ap length same))
