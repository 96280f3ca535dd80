use Rattle.std.proofs.Common.{◌≡◌, ◌<◌, ◌∙◌, ℕ, List, length, refl, sym, ap, subst, rules, arith}
use Rattle.std.specs.Prelude.{Some}
use Rattle.std.specs.Ordering.{nat_cmp}
use Rattle.std.specs.BTreeMap.{get}
use Rattle.fp_lists.specs.Faults.{Rose}
use Rattle.seq_dependents.specs.Control.{IsControl}
use Rattle.area_states.specs.Places.{counted_by}
use Rattle.area_staging.specs.Looking.{LooksAt}
use Rattle.area_staging.specs.Staging.{kept_itself, staged_area}
use Rattle.plain_laws.proofs.Results.{if_ok_with}
use Rattle.dedb_area.specs.Anchors.{intervals_of}
use Rattle.dedb_area.specs.inside.Anchors.{ShowsArea}
use Rattle.dedb_area.proofs.AnchorLemmas.{fresh_area, fresh_tells, kept_of_equals, some_counted}
use Rattle.dedb_area.proofs.Purges.{control_after, control_before, purged_given}
use Rattle.dedb_area.proofs.purging.purged.Goals as goal

pub returns : goal.returns
returns g c =
    let place = c.args.place.now in
    let set = c.args.set in
    let q = c.new-staging.result in
    let e = c.new-staging.ensures in
    let n = c.purge-done.new.i in
    let done = c.purge-done.ensures in
    let given = c.control_of-control.ensures in
    let first = (g.T.Site.disk c.args.site.now).contents in
    let first_q = (g.T.Site.disk q.site.now).contents in
    let contents = ap (λ x. (g.T.Site.disk x).contents) e.site in
    -- what is kept since the `Staging` was made
    let known = done.goes_on.known q (
      refl,
      refl,
      refl,
      refl,
      kept_itself g.T.Site.told g.T.Site.disk g.T.Site.faults g.T.Site.holds g.T.Site.keeps g.T.Site.tells_reads
          g.T.Site.bytes_read q.set q.size q.count q.site.now q.pool.now (get nat_cmp q.staged),
    ) in
    let site = known.0 ∙ e.same_site in
    let pool = known.1 ∙ e.same_pool in
    let kept = kept_of_equals g.T.Site.told g.T.Site.disk g.T.Site.faults g.T.Site.holds g.T.Site.keeps
    g.T.Site.tells_reads g.T.Site.bytes_read q.set set q.size place.shape.ci q.count c.args.count n.count q.site.now
    c.args.site.now n.site.now q.pool.now c.args.pool.now n.pool.now (get nat_cmp q.staged) (get nat_cmp n.staged)
    e.set e.size e.count e.site e.pool known.4 in
    -- it shows the area
    let tells = fresh_tells g.T.Site.told g.T.Site.disk set q.set place.shape.ci q.size c.args.site.now q.site.now
    c.args.pool.now q.pool.now e.set e.size e.site e.pool in
    let area : (bytes : ℕ → List ℕ) → ShowsArea place set first c.args.pool.now bytes
    → c.args.count ≡ counted_by (Some place) (bytes 0)
    → staged_area q.count (get nat_cmp q.staged) q.pool.now first_q q.set q.size ≡ intervals_of place bytes =
    λ bytes shown count. fresh_area place set q.set q.size c.args.count q.count first first_q c.args.pool.now
    q.pool.now (get nat_cmp q.staged) bytes e.set e.size e.count contents e.pool e.none_staged shown count in
    record {
      purged = λ told bytes shown count.
          let some = some_counted place (bytes 0) in
          let long : 0 < n.count = omega (arith, some, count, e.count, done.number) in
          purged_given c.control_of-control.result c.purge-done.result (get nat_cmp n.staged 0)
          (staged_area q.count (get nat_cmp q.staged) q.pool.now first_q q.set q.size)
          (staged_area n.count (get nat_cmp n.staged) n.pool.now (g.T.Site.disk n.site.now).contents n.set n.size)
          (bytes 0) c.args.n given.same given.done (done.put (tells told shown.told))
          (done.moved (tells told shown.told)) (control_before place bytes _ (area bytes shown count))
          (control_after place set n.set n.size n.count first (g.T.Site.disk n.site.now).contents c.args.pool.now
          n.pool.now (get nat_cmp n.staged) bytes (known.2 ∙ e.set) (known.3 ∙ e.size) long
          (kept.looks.stays told).contents kept.looks.cells shown);
      damaged = λ told bytes shown count s at is control.
          let found = given.damaged s at is in
          done.damaged (tells told shown.told) found.0 found.1
          (subst IsControl (sym (area bytes shown count)) control);
      first = λ s at is. let found = given.damaged s at is in (found.2, found.3);
      never_full = λ s begin end m is. done.never_full begin end m (given.full s begin end m is);
      failed = λ is.
          let rose : Rose (g.T.Site.faults c.args.site.now) (g.T.Site.faults n.site.now) =
          subst (λ x. Rose (g.T.Site.faults x) (g.T.Site.faults n.site.now)) e.site (done.failed (given.failed is)) in
          search rules;
      size = if_ok_with c.control_of-control.result (λ o. o ≡ get nat_cmp n.staged 0)
          (λ o. (i : List ℕ) → o ≡ Some i → length i ≡ place.shape.ci) given.same
          (λ o same i is. (n.fit 0 i (sym same ∙ is)).1 ∙ known.3 ∙ e.size);
      looks =
          let look : LooksAt g.T.Site.told g.T.Site.disk g.T.Site.faults g.T.Site.holds g.T.Site.keeps set
          place.shape.ci c.args.site.now n.site.now c.args.pool.now n.pool.now = kept.looks in
          search rules;
    }
