use Rattle.std.proofs.Common.{◌≡◌, ◌∙◌, ◌++◌, ◌+◌, ◌<◌, ◌≤◌, ap, refl, sym, subst, arith, rules, length, drop, min, List, [], ℕ}
use Rattle.fp_lists.proofs.ContinuedLemmas.{continued_both}
use Rattle.fp_model.specs.declared.database.Msdb.{Msdb}
use Rattle.fp_show.specs.DbText.{each_text, msdb_text}
use Rattle.fp_show.proofs.Pairs.{each_done}
use Rattle.site_texts.specs.Sent.{HasSent, HasSentPart}
use Rattle.site_texts.specs.inside.Sent.{IsTold}
use Rattle.site_texts.specs.Texts.{msdbs_text}
use Rattle.site_texts.proofs.Lines.{database_next}
use Rattle.site_texts.proofs.Told.{part_whole, told_all, told_as, told_last_part, told_next, told_next_part}
use Rattle.site_texts.proofs.databases.send_databases.Given as given
use Rattle.site_texts.proofs.databases.send_databases.Goals as goal

pub returns-in_err-tell_database-clause-part : goal.returns-in_err-tell_database-clause-part
returns-in_err-tell_database-clause-part g c t =
    let it = c.loop-number.invariant in
    let next = database_next c.args.defs.now.msdbs c.args.store.now.msdbs c.loop-number.number c.def-item.result
    (omega (arith, ap length c.as_slice-def-items.ensures, c.loop-number-test.true)) c.requires.of (search rules) in
    let t1 = it.site.still_told t in
    let d0 = g.T.Site.disk c.args.site.now in
    let d1 = g.T.Site.disk c.loop-number.site in
    let d2 = g.T.Site.disk c.tell_database.new.site in
    told_next_part d0 d1 d2 _ c.loop-number.held (msdb_text c.def-item.result next.0) _
    (g.met.T.Site.lawful c.args.site.now t) (g.met.T.Site.lawful c.loop-number.site t1)
    (told_as d0 d1 _ c.loop-number.held _ _ next.2 (it.told t))
    (c.tell_database.ensures.part next.0 next.1 t1)

pub loop-number-preserved : goal.loop-number-preserved
loop-number-preserved g c =
    let it = c.loop-number.invariant in
    let next = database_next c.args.defs.now.msdbs c.args.store.now.msdbs c.loop-number.number c.def-item.result
    (omega (arith, ap length c.as_slice-def-items.ensures, c.loop-number-test.true)) c.requires.of (search rules) in
    let call = c.tell_database.ensures in
    record {
      told = λ t.
          let t1 = it.site.still_told t in
          let d0 = g.T.Site.disk c.args.site.now in
          let d1 = g.T.Site.disk c.loop-number.site in
          let d2 = g.T.Site.disk c.tell_database.new.site in
          told_next d0 d1 d2 _ c.loop-number.held (msdb_text c.def-item.result next.0) _
          (g.met.T.Site.lawful c.args.site.now t) (g.met.T.Site.lawful c.loop-number.site t1)
          (told_as d0 d1 _ c.loop-number.held _ _ next.2 (it.told t)) c.tell_database.new.held
          (c.in_ok-tell_database.ensures.all next.0 next.1 t1);
      calm = search rules ∙ it.calm;
      reads = λ set h. let after = call.reads set h in let earlier = it.reads set after.0 in
          (earlier.0, after.1 ∙ earlier.1);
      site = continued_both g.T.Site.told g.T.Site.faults g.T.Site.holds g.T.Site.keeps _ _ _ it.site call.site;
    }

pub returns-in_err-send_held-clause-part : goal.returns-in_err-send_held-clause-part
returns-in_err-send_held-clause-part g c t =
    let it = c.loop-number.invariant in
    let t1 = it.site.still_told t in
    let past : min (length c.args.defs.now.msdbs) (length c.args.store.now.msdbs) ≤ c.loop-number.number =
    omega (arith, c.requires.of, ap length c.as_slice-def-items.ensures, c.loop-number-test.false) in
    let ended = told_as (g.T.Site.disk c.args.site.now) (g.T.Site.disk c.loop-number.site) _ c.loop-number.held _ []
    (each_done msdb_text c.args.defs.now.msdbs c.args.store.now.msdbs c.loop-number.number past)
    (it.told t) in
    told_last_part (g.T.Site.disk c.args.site.now) (g.T.Site.disk c.loop-number.site)
    (g.T.Site.disk c.send_held.new.site) _ c.loop-number.held (g.met.T.Site.lawful c.args.site.now t)
    (g.met.T.Site.lawful c.loop-number.site t1) ended (c.send_held.ensures.part t1)

pub returns-clause-sent : goal.returns-clause-sent
returns-clause-sent g c t =
    let it = c.loop-number.invariant in
    let t1 = it.site.still_told t in
    let past : min (length c.args.defs.now.msdbs) (length c.args.store.now.msdbs) ≤ c.loop-number.number =
    omega (arith, c.requires.of, ap length c.as_slice-def-items.ensures, c.loop-number-test.false) in
    let ended = told_as (g.T.Site.disk c.args.site.now) (g.T.Site.disk c.loop-number.site) _ c.loop-number.held _ []
    (each_done msdb_text c.args.defs.now.msdbs c.args.store.now.msdbs c.loop-number.number past)
    (it.told t) in
    told_all (g.T.Site.disk c.args.site.now) (g.T.Site.disk c.loop-number.site)
    (g.T.Site.disk c.send_held.new.site) _ c.loop-number.held (g.met.T.Site.lawful c.args.site.now t)
    (g.met.T.Site.lawful c.loop-number.site t1) ended (c.in_ok-send_held.ensures.sent t1)

pub returns-clause-part : goal.returns-clause-part
returns-clause-part g c t =
    part_whole (g.T.Site.disk c.args.site.now) (g.T.Site.disk c.send_held.new.site) _ (returns-clause-sent g c t)
