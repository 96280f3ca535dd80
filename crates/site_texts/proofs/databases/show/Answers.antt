use Rattle.std.proofs.Common.{◌≡◌, ◌∙◌, ◌++◌, inr, ap, arith, rules, List, ℕ, take}
use Rattle.std.proofs.lemmas.Result.{on_ok_weaker}
use Rattle.log_groups.specs.Images.{as_front}
use Rattle.fp_model.specs.declared.database.Msdb.{Msdb}
use Rattle.site_texts.specs.Sent.{HasSent}
use Rattle.site_texts.specs.Texts.{IsDbSent, msdbs_text}
use Rattle.site_texts.proofs.Restarted.{nothing_shown, rests_behind, show_moments, text_read}
use Rattle.site_texts.proofs.databases.show.Given as given
use Rattle.site_texts.proofs.databases.show.Goals as goal

pub returns-in_err-store-clause-sends : goal.returns-in_err-store-clause-sends
returns-in_err-store-clause-sends g c t =
    let call = c.restart.ensures in
    nothing_shown c.args.defs.now (as_front c.args.front.now) (g.T.Site.disk c.args.site.now)
    (g.T.Site.disk c.restart.new.site) (call.contents t) (call.sent t) (call.crash t)

pub returns-in_err-store-clause-damaged : goal.returns-in_err-store-clause-damaged
returns-in_err-store-clause-damaged g c set at t is =
    let call = c.restart.ensures in (
      call.sent t,
      call.damaged set at t (search rules),
      call.begun set at t (search rules),
      call.place set at t (search rules),
    )

pub returns-clause-shown : goal.returns-clause-shown
returns-clause-shown g c t =
    let call = c.restart.ensures in
    let t1 = call.site.still_told t in
    let d0 = g.T.Site.disk c.args.site.now in
    let d2 = g.T.Site.disk c.send_databases.new.site in
    let d1 = g.T.Site.disk c.restart.new.site in
    let text = msdbs_text c.args.defs.now c.in_ok-store.store.msdbs in
    on_ok_weaker c.send_databases.result
    (λ (all : HasSent d1 d2 text). record {
      text = text;
      is =
          text_read c.args.defs.now (as_front c.args.front.now) d0 d1 c.in_ok-store.store c.in_ok-store._log
          c.in_ok-store._lasts (call.contents t 0) c.in_ok-store.ensures.is_format (c.in_ok-store.ensures.reads t);
      sent = all.sent ∙ ap (λ (x : List ℕ). x ++ text) (call.sent t);
    })
    (c.send_databases.ensures.sent t1)

pub returns-clause-sends : goal.returns-clause-sends
returns-clause-sends g c t =
    let call = c.restart.ensures in
    let t1 = call.site.still_told t in
    let d0 = g.T.Site.disk c.args.site.now in
    let d2 = g.T.Site.disk c.send_databases.new.site in
    let d1 = g.T.Site.disk c.restart.new.site in
    let text = msdbs_text c.args.defs.now c.in_ok-store.store.msdbs in
    let part = c.send_databases.ensures.part t1 in
    record {
      text = text;
      is = inr (text_read c.args.defs.now (as_front c.args.front.now) d0 d1 c.in_ok-store.store c.in_ok-store._log
          c.in_ok-store._lasts (call.contents t 0) c.in_ok-store.ensures.is_format (c.in_ok-store.ensures.reads t));
      count = part.count;
      sent = part.sent ∙ ap (λ (x : List ℕ). x ++ take part.count text) (call.sent t);
      contents = λ set. ap (λ (f : ℕ → List ℕ). f set) part.contents ∙ call.contents t set;
      crash = show_moments d0 d1 (g.met.T.Site.lawful c.restart.new.site t1) (call.crash t) text d2 part;
    }

pub returns-clause-rests : goal.returns-clause-rests
returns-clause-rests g c t =
    let t1 = c.restart.ensures.site.still_told t in
    let d1 = g.T.Site.disk c.restart.new.site in
    let d2 = g.T.Site.disk c.send_databases.new.site in
    let text = msdbs_text c.args.defs.now c.in_ok-store.store.msdbs in
    on_ok_weaker c.send_databases.result
    (rests_behind d1 d2 text (g.met.T.Site.lawful c.restart.new.site t1)
    (g.met.T.Site.lawful c.send_databases.new.site (c.send_databases.ensures.site.still_told t1))
    (c.in_ok-store.ensures.reads t).durable)
    (c.send_databases.ensures.sent t1)

pub returns-clause-means : goal.returns-clause-means
returns-clause-means g c format scripts entries last t sound history =
    let call = c.restart.ensures in
    let t1 = call.site.still_told t in
    let d1 = g.T.Site.disk c.restart.new.site in
    let d2 = g.T.Site.disk c.send_databases.new.site in
    let text = msdbs_text c.args.defs.now c.in_ok-store.store.msdbs in
    let stands = c.in_ok-store.ensures.sound format scripts entries t sound in
    on_ok_weaker c.send_databases.result
    (λ (all : HasSent d1 d2 text).
    all.sent ∙ ap (λ (x : List ℕ). x ++ text) (call.sent t)
    ∙ ap (λ (ms : List Msdb). (g.T.Site.disk c.args.site.now).sent ++ msdbs_text c.args.defs.now ms)
    (stands.segments last history))
    (c.send_databases.ensures.sent t1)

pub returns-in_err-store-clause-once : goal.returns-in_err-store-clause-once
returns-in_err-store-clause-once g c t tells =
    let call = c.restart.ensures in
    record {
      all = call.once t tells;
      up_to = λ groups gate holds. call.read groups gate t holds.reads tells;
      of_others = λ away. call.no_front t away tells;
    }

pub returns-clause-once : goal.returns-clause-once
returns-clause-once g c t tells =
    let call = c.restart.ensures in
    let on = c.send_databases.ensures.reads 0 tells in
    record {
      all = let at_most = call.once t on.0 in omega (arith, on.1, at_most);
      up_to = λ groups gate holds. let at_most = call.read groups gate t holds.reads on.0 in omega (
        arith,
        on.1,
        at_most,
      );
      of_others = λ away. let at_most = call.no_front t away on.0 in omega (arith, on.1, at_most);
    }

pub returns-clause-only_log : goal.returns-clause-only_log
returns-clause-only_log g c set tells =
    let on = c.send_databases.ensures.reads set tells in
    let first = c.restart.ensures.only_log set on.0 in
    (first.0, λ other. on.1 ∙ first.1 other)
