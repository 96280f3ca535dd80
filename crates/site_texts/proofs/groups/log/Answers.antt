use Rattle.std.proofs.Common.{◌≡◌, ◌∙◌, ap, sym, arith, rules, subst, refl, ℕ, List, []}
use Rattle.std.proofs.lemmas.Result.{on_ok_weaker}
use Rattle.std.specs.Prelude.{◌+◌, length}
use Rattle.std.proofs.lemmas.List.{length-append}
use Rattle.fp_model.specs.Groups.{Groups, Reads}
use Rattle.fp_model.specs.LogText.{first_gate, front_text}
use Rattle.log_groups.specs.Images.{BeginsFor, as_front, in_format}
use Rattle.log_groups.proofs.Fronts.{same_gate}
use Rattle.site_texts.specs.inside.Groups.{AreAllSent, SendsFrom}
use Rattle.site_texts.specs.Texts.{IsLogSent, IsSentToDamage, SendsGroups}
use Rattle.site_texts.proofs.Whole.{none_sent, whole_sent, part_sent, damage_sent}
use Rattle.site_texts.proofs.groups.log.Given as given
use Rattle.site_texts.proofs.groups.log.Goals as goal

pub returns-in_err-log-clause-sends : goal.returns-in_err-log-clause-sends
returns-in_err-log-clause-sends g c t =
    none_sent (as_front c.args.front.now) (g.T.Site.disk c.args.site.now) (g.T.Site.disk c.open.new.site)
    (c.open.ensures.stays t)

-- the log begins with the front, in the format that it was opened in
begun : (g : given.Over) (c : goal.After-drop-log-inside g) → g.T.Site.told c.args.site.now
    → BeginsFor (as_front c.args.front.now) ((g.T.Site.disk c.args.site.now).contents 0)
begun g c t = record {
  format = c.in_ok-log.log.front_format;
  is_format = c.in_ok-log.ensures.is_format;
  begins = c.in_ok-log.ensures.front t;
}

pub returns-clause-sends : goal.returns-clause-sends
returns-clause-sends g c t =
    let t1 = c.open.ensures.site.still_told t in
    part_sent (as_front c.args.front.now) c.gate-first.result (g.T.Site.disk c.args.site.now)
    (g.T.Site.disk c.open.new.site)
    (g.T.Site.disk c.send_groups.new.site) (g.met.T.Site.lawful c.args.site.now t)
    (g.met.T.Site.lawful c.open.new.site t1) (search rules) (c.open.ensures.stays t) (begun g c t)
    (c.send_groups.ensures.sends t1)

pub returns-clause-shown : goal.returns-clause-shown
returns-clause-shown g c t =
    let t1 = c.open.ensures.site.still_told t in
    on_ok_weaker c.send_groups.result
    (whole_sent (as_front c.args.front.now) c.gate-first.result (g.T.Site.disk c.args.site.now)
    (g.T.Site.disk c.open.new.site) (g.T.Site.disk c.send_groups.new.site) (g.met.T.Site.lawful c.args.site.now t)
    (g.met.T.Site.lawful c.open.new.site t1) (search rules) (c.open.ensures.stays t) (begun g c t))
    (c.send_groups.ensures.shown t1)

pub returns-clause-damaged : goal.returns-clause-damaged
returns-clause-damaged g c set at t is =
    let t1 = c.open.ensures.site.still_told t in
    let bad = c.send_groups.ensures.damaged set at t1 is in (
      bad.0,
      damage_sent (as_front c.args.front.now) c.gate-first.result (g.T.Site.disk c.args.site.now)
          (g.T.Site.disk c.open.new.site) (g.T.Site.disk c.send_groups.new.site)
          (g.met.T.Site.lawful c.args.site.now t)
          (g.met.T.Site.lawful c.open.new.site t1) (search rules) (c.open.ensures.stays t) at
          (begun g c t) bad.1,
    )

pub returns-in_err-log-clause-once : goal.returns-in_err-log-clause-once
returns-in_err-log-clause-once g c t told =
    let few = c.open.ensures.count told in
    let inside = c.open.ensures.inside t told in
    record {
      all = omega (arith, inside);
      up_to = λ groups gate holds. omega (arith, few, holds.reads.0.next);
      of_others = λ away. few;
    }

pub returns-clause-once : goal.returns-clause-once
returns-clause-once g c t told =
    let front = as_front c.args.front.now in
    let t1 = c.open.ensures.site.still_told t in
    let old = (g.T.Site.disk c.args.site.now).contents 0 in
    let same = ap (λ f. f 0) (c.open.ensures.stays t).contents in
    let first : c.gate-first.result ≡ first_gate front = search rules in
    let told1 = (c.send_groups.ensures.only_log 0 told).0 in
    let exact = c.in_ok-log.ensures.exact told1 in
    let begins = c.in_ok-log.ensures.front t in
    let its = in_format c.in_ok-log.log.front_format front in
    record {
      all =
          let few = c.send_groups.ensures.once t1 told in
          let long : length old ≡ first_gate its + length begins.0 =
          ap length begins.1 ∙ length-append (front_text 1 its) begins.0 in
          omega (arith, few, exact, first, long, same_gate c.in_ok-log.log.front_format front, ap length same);
      up_to = λ groups gate holds.
          let whole = subst (λ n. Reads ((g.T.Site.disk c.open.new.site).contents 0) n (Groups groups gate)) (sym first)
          (subst (λ l. Reads l (first_gate front) (Groups groups gate)) (sym same) holds.reads) in
          let few = c.send_groups.ensures.read groups gate t1 whole told in omega (arith, few, exact, first);
      of_others = λ away. absurd (away (begun g c t));
    }
