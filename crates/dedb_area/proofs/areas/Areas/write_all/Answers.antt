use Rattle.std.proofs.Common.{◌≤◌, ◌∙◌, refl}
use Rattle.fp_site.proofs.Frames.{only_in_joined, only_in_none}
use Rattle.fp_lists.proofs.ContinuedLemmas.{continued_both, continued_none}
use Rattle.fp_model.specs.State.{first_area_set}
use Rattle.dedb_area.proofs.Writes.{areas_none}
use Rattle.dedb_area.proofs.Everything.{areas_then}
use Rattle.dedb_area.proofs.areas.Areas.write_all.Goals as goal

pub writes-init : goal.writes-init
writes-init g c = record {
  continued = continued_none _ _ _ _ _;
  faults = refl;
  reads = λ set t. (t, refl);
  rest = λ s k w is. is;
  fit = λ f. f;
  places = refl;
  imaged = refl;
  count = refl;
  keeps_areas = λ t way bytes none. areas_none way bytes (g.T.Site.disk c.args.site.now) c.args.self.now
      (g.met.T.Site.lawful c.args.site.now t);
  only = λ t f. only_in_none (λ s. first_area_set ≤ s) (g.T.Site.disk c.args.site.now);
}

pub returns-in_err-write_next-clause-keeps_areas : goal.returns-in_err-write_next-clause-keeps_areas
returns-in_err-write_next-clause-keeps_areas g c told way bytes none =
    let inv = c.writes.invariant in
    let still = inv.continued.still_told in
    areas_then way bytes (g.T.Site.disk c.args.site.now) (g.T.Site.disk c.writes.site) (g.T.Site.disk c.write_next.new.site)
    c.args.self.now c.writes.self c.write_next.new.self (inv.keeps_areas told way bytes none)
    (c.write_next.ensures.keeps_areas (still told) way bytes none)

pub returns-in_err-write_next-clause-only : goal.returns-in_err-write_next-clause-only
returns-in_err-write_next-clause-only g c told fit =
    let inv = c.writes.invariant in
    let still = inv.continued.still_told in
    only_in_joined (λ s. first_area_set ≤ s) (g.T.Site.disk c.args.site.now) (g.T.Site.disk c.writes.site)
    (g.T.Site.disk c.write_next.new.site) (g.met.T.Site.lawful c.args.site.now told)
    (g.met.T.Site.lawful c.writes.site (still told)) (inv.only told fit)
    (c.write_next.ensures.only (still told) (inv.fit fit))

pub writes-preserved : goal.writes-preserved
writes-preserved g c =
    let inv = c.writes.invariant in
    let still = inv.continued.still_told in
    let e = c.write_next.ensures in
    record {
      continued = continued_both _ _ _ _ _ _ _ inv.continued e.site;
      faults = c.in_ok-write_next.ensures.cause.stayed ∙ inv.faults;
      reads = λ set t. let later = e.reads set t in let was = inv.reads set later.0 in (was.0, later.1 ∙ was.1);
      rest = λ s k w is. inv.rest s k w (e.rest s k w is);
      fit = λ f. e.fit (inv.fit f);
      places = e.places ∙ inv.places;
      imaged = e.imaged ∙ inv.imaged;
      count = e.count ∙ inv.count;
      keeps_areas = λ told way bytes none. areas_then way bytes (g.T.Site.disk c.args.site.now) (g.T.Site.disk c.writes.site)
          (g.T.Site.disk c.write_next.new.site) c.args.self.now c.writes.self c.write_next.new.self
          (inv.keeps_areas told way bytes none) (e.keeps_areas (still told) way bytes none);
      only = λ told fit. only_in_joined (λ s. first_area_set ≤ s) (g.T.Site.disk c.args.site.now)
          (g.T.Site.disk c.writes.site) (g.T.Site.disk c.write_next.new.site)
          (g.met.T.Site.lawful c.args.site.now told) (g.met.T.Site.lawful c.writes.site (still told))
          (inv.only told fit) (e.only (still told) (inv.fit fit));
    }

pub returns-clause-keeps_areas : goal.returns-clause-keeps_areas
returns-clause-keeps_areas g c told way bytes none =
    let inv = c.writes.invariant in
    let still = inv.continued.still_told in
    let middle = areas_then way bytes (g.T.Site.disk c.args.site.now) (g.T.Site.disk c.writes.site)
    (g.T.Site.disk c.write_next.new.site) c.args.self.now c.writes.self c.write_next.new.self
    (inv.keeps_areas told way bytes none) (c.write_next.ensures.keeps_areas (still told) way bytes none) in
    areas_then way bytes (g.T.Site.disk c.args.site.now) (g.T.Site.disk c.write_next.new.site)
    (g.T.Site.disk c.sync_written.new.site) c.args.self.now c.write_next.new.self c.sync_written.new.self middle
    (c.sync_written.ensures.keeps_areas (c.write_next.ensures.site.still_told (still told)) way bytes)

pub returns-clause-only : goal.returns-clause-only
returns-clause-only g c told fit =
    let inv = c.writes.invariant in
    let still = inv.continued.still_told in
    let told2 = c.write_next.ensures.site.still_told (still told) in
    let law = g.met.T.Site.lawful c.args.site.now told in
    let middle = only_in_joined (λ s. first_area_set ≤ s) (g.T.Site.disk c.args.site.now) (g.T.Site.disk c.writes.site)
    (g.T.Site.disk c.write_next.new.site) law (g.met.T.Site.lawful c.writes.site (still told)) (inv.only told fit)
    (c.write_next.ensures.only (still told) (inv.fit fit)) in
    only_in_joined (λ s. first_area_set ≤ s) (g.T.Site.disk c.args.site.now) (g.T.Site.disk c.write_next.new.site)
    (g.T.Site.disk c.sync_written.new.site) law (g.met.T.Site.lawful c.write_next.new.site told2) middle
    (c.sync_written.ensures.only told2)
