use Rattle.std.proofs.Common.{◌+◌, true, refl, sym, ◌∙◌, ap, subst, arith, inl, inr}
use Rattle.std.specs.Prelude.{slice_get}
use Rattle.std.proofs.lemmas.Bool.{cases_eq}
use Rattle.std.proofs.lemmas.Option.{get_or_from_slice_get, slice_get_within}
use Rattle.fp_site.specs.Disk.{IsDurable}
use Rattle.fp_lists.proofs.ContinuedLemmas.{continued_both, continued_none}
use Rattle.fp_model.specs.State.{first_area_set}
use Rattle.dedb_area.proofs.Syncs.{syncs_none, syncs_then}
use Rattle.dedb_area.proofs.syncing.sync_all.Goals as goal

pub loop-number-init : goal.loop-number-init
loop-number-init g c = record {
  continued = continued_none _ _ _ _ _;
  count = refl;
  reads = λ set t. (t, refl);
  syncs = λ t. syncs_none _ (g.met.T.Site.lawful c.args.site.now t);
  synced = λ t k lt. absurd (omega arith);
}

pub returns-in_err-sync_one-clause-syncs : goal.returns-in_err-sync_one-clause-syncs
returns-in_err-sync_one-clause-syncs g c told =
    let told1 = c.loop-number.invariant.continued.still_told told in
    syncs_then _ _ _ (g.met.T.Site.lawful c.args.site.now told) (g.met.T.Site.lawful c.loop-number.site told1)
    (c.loop-number.invariant.syncs told) (c.sync_one.ensures.syncs told1)

pub loop-number-preserved : goal.loop-number-preserved
loop-number-preserved g c =
    let inv = c.loop-number.invariant in
    let still = inv.continued.still_told in
    record {
      continued = continued_both _ _ _ _ _ _ _ inv.continued c.sync_one.ensures.site;
      count = c.in_ok-sync_one.ensures.cause.stayed ∙ inv.count;
      reads = λ set t. let later = c.sync_one.ensures.reads set t in let was = inv.reads set later.0 in
          (was.0, later.1 ∙ was.1);
      syncs = λ t. syncs_then _ _ _ (g.met.T.Site.lawful c.args.site.now t)
          (g.met.T.Site.lawful c.loop-number.site (still t)) (inv.syncs t)
          (c.sync_one.ensures.syncs (still t));
      synced = λ t k lt is. elim (cases_eq k c.loop-number.number) [
        | inl e ↦ subst (λ n. IsDurable (g.T.Site.disk c.sync_one.new.site) (first_area_set + n)) (sym e)
            (c.in_ok-sync_one.ensures.synced (still t) (get_or_from_slice_get c.args.unsynced.now
            c.loop-number.number true _ (ap (slice_get c.args.unsynced.now) (sym e) ∙ is)))
        | inr ne ↦ (c.sync_one.ensures.syncs (still t)).durable (first_area_set + k)
            (inv.synced t k (omega (arith, lt, ne)) is)
      ];
    }

pub returns-clause-synced : goal.returns-clause-synced
returns-clause-synced g c told number is =
    let within = slice_get_within c.args.unsynced.now number true is in
    c.loop-number.invariant.synced told number (omega (arith, within, c.loop-number-test.false)) is
