use Rattle.std.proofs.Common.{◌≡◌, ◌∙◌, ◌++◌, ◌+◌, ◌<◌, ◌≤◌, ap, refl, sym, subst, arith, rules, length, drop, get_or, List, [], ◌∷◌, ℕ}
use Rattle.fp_lists.proofs.ContinuedLemmas.{continued_both, continued_none}
use Rattle.std.specs.List.{flat_map}
use Rattle.std.specs.Option.{option_copied}
use Rattle.std.specs.Prelude.{Some, slice_get}
use Rattle.std.proofs.lemmas.List.{append-nil, append_assoc, drop_all}
use Rattle.std.proofs.lemmas.List.Concat.{flat_map-cons}
use Rattle.std.proofs.lemmas.Option.{slice_get-get_or}
use Rattle.fp_model.specs.declared.database.Msdb.{Msdb}
use Rattle.fp_show.specs.DbText.{msdb_head, msdb_line, msdb_text}
use Rattle.site_texts.specs.Sent.{HasSentPart}
use Rattle.site_texts.specs.inside.Sent.{IsTold}
use Rattle.site_texts.proofs.Lines.{has_database, is_there, told_begins, told_line}
use Rattle.site_texts.proofs.Told.{told_as, told_next, told_next_part, told_none, told_part}
use Rattle.site_texts.proofs.databases.tell_database.Given as given
use Rattle.site_texts.proofs.databases.tell_database.Goals as goal

pub loop-place-init : goal.loop-place-init
loop-place-init g c = record {
  told = λ its is t. told_begins (g.T.Site.disk c.args.site.now) c.args.held.now c.put_msdb_head.new.into c.args.def.now
      its
      (c.in_ok-put_msdb_head.ensures.ok
      ∙ ap (λ n. c.args.held.now ++ msdb_head c.args.def.now n) (c.count-count.ensures its is));
  calm = refl;
  reads = λ set tells. (tells, refl);
  site = continued_none g.T.Site.told g.T.Site.faults g.T.Site.holds g.T.Site.keeps c.args.site.now;
}

pub unreachable-requires : goal.unreachable-requires
unreachable-requires g c =
    let its = has_database c.args.store.now.msdbs c.args.number c.requires in
    let count = c.count-count.ensures its.0 its.1 in
    let here = c.segment_at.ensures its.0 its.1 in
    let lt : c.loop-place.place < length its.0.segments = omega (arith, count, c.loop-place-test.true) in
    is_there its.0.segments c.loop-place.place [] (option_copied c.segment_at.result) lt here
    (ap option_copied c.in_default.is)

pub returns-in_err-put_msdb_line-clause-part : goal.returns-in_err-put_msdb_line-clause-part
returns-in_err-put_msdb_line-clause-part g c its is t =
    told_part (g.T.Site.disk c.args.site.now) (g.T.Site.disk c.loop-place.site) _ _ _
    (c.loop-place.invariant.told its is t)

pub returns-in_err-send_large-clause-part : goal.returns-in_err-send_large-clause-part
returns-in_err-send_large-clause-part g c its is t =
    let it = c.loop-place.invariant in
    let t1 = it.site.still_told t in
    let d0 = g.T.Site.disk c.args.site.now in
    let d1 = g.T.Site.disk c.loop-place.site in
    let d2 = g.T.Site.disk c.send_large.new.site in
    let line = told_line c.args.def.now its c.loop-place.place c.in-Some.segment.now (search rules) in
    told_next_part d0 d1 d2 _ c.loop-place.held (msdb_line c.args.def.now c.in-Some.segment.now) _
    (g.met.T.Site.lawful c.args.site.now t) (g.met.T.Site.lawful c.loop-place.site t1)
    (told_as d0 d1 _ c.loop-place.held _ _ line (it.told its is t))
    (subst (HasSentPart d1 d2) c.in_ok-put_msdb_line.ensures.ok (c.send_large.ensures.part t1))

pub loop-place-preserved : goal.loop-place-preserved
loop-place-preserved g c =
    let it = c.loop-place.invariant in
    let call = c.send_large.ensures in
    record {
      told = λ its is t.
          let t1 = it.site.still_told t in
          let d0 = g.T.Site.disk c.args.site.now in
          let d1 = g.T.Site.disk c.loop-place.site in
          let d2 = g.T.Site.disk c.send_large.new.site in
          let line = told_line c.args.def.now its c.loop-place.place c.in-Some.segment.now (search rules) in
          told_next d0 d1 d2 _ c.loop-place.held (msdb_line c.args.def.now c.in-Some.segment.now) _
          (g.met.T.Site.lawful c.args.site.now t) (g.met.T.Site.lawful c.loop-place.site t1)
          (told_as d0 d1 _ c.loop-place.held _ _ line (it.told its is t)) c.send_large.new.held
          (subst (λ held. IsTold d1 d2 held c.send_large.new.held []) c.in_ok-put_msdb_line.ensures.ok
          (c.in_ok-send_large.ensures.told_all t1));
      calm = c.in_ok-send_large.ensures.cause.stayed ∙ it.calm;
      reads = λ set h. let after = call.reads set h in let earlier = it.reads set after.0 in
          (earlier.0, after.1 ∙ earlier.1);
      site = continued_both g.T.Site.told g.T.Site.faults g.T.Site.holds g.T.Site.keeps _ _ _ it.site call.site;
    }

pub returns-clause-part : goal.returns-clause-part
returns-clause-part g c its is t =
    told_part (g.T.Site.disk c.args.site.now) (g.T.Site.disk c.loop-place.site) _ _ _
    (c.loop-place.invariant.told its is t)

pub returns-clause-all : goal.returns-clause-all
returns-clause-all g c its is t =
    let count = c.count-count.ensures its is in
    let past : length its.segments ≤ c.loop-place.place = omega (arith, count, c.loop-place-test.false) in
    told_as (g.T.Site.disk c.args.site.now) (g.T.Site.disk c.loop-place.site) _ c.loop-place.held _ []
    (ap (flat_map (msdb_line c.args.def.now)) (drop_all c.loop-place.place its.segments past))
    (c.loop-place.invariant.told its is t)
