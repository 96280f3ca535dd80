use Rattle.std.proofs.Common.{◌≤◌, ◌∙◌, refl}
use Rattle.fp_site.specs.Disk.{Settles}
use Rattle.fp_site.proofs.Frames.{only_in_joined, only_in_none}
use Rattle.fp_site.proofs.Images.{durable_aside, settles_left}
use Rattle.fp_lists.proofs.ContinuedLemmas.{continued_both, continued_none}
use Rattle.fp_model.specs.State.{first_area_set}
use Rattle.dedb_area.proofs.Formatted.{leaves_none, leaves_then, started_none}
use Rattle.dedb_area.proofs.Syncs.{only_synced}
use Rattle.dedb_area.proofs.formatting.format_area.Goals as goal

pub loop-ci-init : goal.loop-ci-init
loop-ci-init g c = record {
  started = λ t. started_none c.args.shape.now ((g.T.Site.disk c.args.site.now).contents c.args.set);
  leaves = λ t. leaves_none c.args.set (g.T.Site.disk c.args.site.now);
  areas = λ t. only_in_none (λ s. first_area_set ≤ s) (g.T.Site.disk c.args.site.now);
  aside = λ t k ne was. was;
  continued = continued_none _ _ _ _ _;
  reads = λ set t. (t, refl);
}

pub returns-in_err-write_start-clause-areas : goal.returns-in_err-write_start-clause-areas
returns-in_err-write_start-clause-areas g c told =
    let inv = c.loop-ci.invariant in
    let still = inv.continued.still_told in
    only_in_joined (λ s. first_area_set ≤ s) (g.T.Site.disk c.args.site.now) (g.T.Site.disk c.loop-ci.site)
    (g.T.Site.disk c.write_start.new.site) (g.met.T.Site.lawful c.args.site.now told)
    (g.met.T.Site.lawful c.loop-ci.site (still told)) (inv.areas told) (c.write_start.ensures.areas (still told))

pub loop-ci-preserved : goal.loop-ci-preserved
loop-ci-preserved g c =
    let inv = c.loop-ci.invariant in
    let still = inv.continued.still_told in
    let e = c.write_start.ensures in
    record {
      started = λ t. c.in_ok-write_start.ensures.started (still t) (inv.started t);
      leaves = λ t. leaves_then c.args.set (g.T.Site.disk c.args.site.now) (g.T.Site.disk c.loop-ci.site)
          (g.T.Site.disk c.write_start.new.site) (inv.leaves t) (e.leaves (still t));
      areas = λ t. only_in_joined (λ s. first_area_set ≤ s) (g.T.Site.disk c.args.site.now)
          (g.T.Site.disk c.loop-ci.site) (g.T.Site.disk c.write_start.new.site)
          (g.met.T.Site.lawful c.args.site.now t) (g.met.T.Site.lawful c.loop-ci.site (still t)) (inv.areas t)
          (e.areas (still t));
      aside = λ t k ne was. e.aside (still t) k ne (inv.aside t k ne was);
      continued = continued_both _ _ _ _ _ _ _ inv.continued e.site;
      reads = λ set t. let later = e.reads set t in let was = inv.reads set later.0 in (was.0, later.1 ∙ was.1);
    }

pub returns-in-Ok-clause-areas : goal.returns-in-Ok-clause-areas
returns-in-Ok-clause-areas g c told =
    let inv = c.loop-ci.invariant in
    let still = inv.continued.still_told in
    only_in_joined (λ s. first_area_set ≤ s) (g.T.Site.disk c.args.site.now) (g.T.Site.disk c.loop-ci.site)
    (g.T.Site.disk c.sync.new.self) (g.met.T.Site.lawful c.args.site.now told)
    (g.met.T.Site.lawful c.loop-ci.site (still told)) (inv.areas told)
    (only_synced c.args.set (g.T.Site.disk c.loop-ci.site) (g.T.Site.disk c.sync.new.self) c.requires.from
    (c.sync.ensures.crash (still told)) (c.sync.ensures.leaves (still told)))

pub returns-in-Err-clause-areas : goal.returns-in-Err-clause-areas
returns-in-Err-clause-areas g c told =
    let inv = c.loop-ci.invariant in
    let still = inv.continued.still_told in
    only_in_joined (λ s. first_area_set ≤ s) (g.T.Site.disk c.args.site.now) (g.T.Site.disk c.loop-ci.site)
    (g.T.Site.disk c.sync.new.self) (g.met.T.Site.lawful c.args.site.now told)
    (g.met.T.Site.lawful c.loop-ci.site (still told)) (inv.areas told)
    (only_synced c.args.set (g.T.Site.disk c.loop-ci.site) (g.T.Site.disk c.sync.new.self) c.requires.from
    (c.sync.ensures.crash (still told)) (c.sync.ensures.leaves (still told)))

pub returns-in-Err-clause-aside : goal.returns-in-Err-clause-aside
returns-in-Err-clause-aside g c told k ne was =
    let inv = c.loop-ci.invariant in
    let still = inv.continued.still_told in
    durable_aside (g.T.Site.disk c.loop-ci.site) (g.T.Site.disk c.sync.new.self) c.args.set k
    (λ before after. Settles (g.T.Site.disk c.loop-ci.site) c.args.set after) ne
    (g.met.T.Site.lawful c.loop-ci.site (still told))
    (g.met.T.Site.lawful c.sync.new.self (c.sync.ensures.site.still_told (still told)))
    (settles_left (g.T.Site.disk c.loop-ci.site) c.args.set)
    ((c.sync.ensures.leaves (still told)).contents k ne) (c.sync.ensures.crash (still told))
    (inv.aside told k ne was)
