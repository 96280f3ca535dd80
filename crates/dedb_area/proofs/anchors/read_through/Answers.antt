use Rattle.std.proofs.Common.{◌≡◌, ◌∙◌, ℕ, List, refl, ap, subst, rules}
use Rattle.std.specs.Prelude.{IfOk, Some}
use Rattle.std.specs.Ordering.{nat_cmp}
use Rattle.std.specs.BTreeMap.{get}
use Rattle.fp_site.specs.Site.{ReadsNothing}
use Rattle.fp_lists.specs.Faults.{Rose}
use Rattle.area_reading.specs.Damage.{IsUnreadable}
use Rattle.area_states.specs.Places.{counted_by}
use Rattle.area_states.specs.States.{HasAnchor}
use Rattle.ci_pool.specs.Held.{SameAtHand}
use Rattle.area_staging.specs.Looking.{LooksAt}
use Rattle.area_staging.specs.Staging.{kept_itself, staged_area}
use Rattle.dedb_area.specs.Anchors.{intervals_of}
use Rattle.dedb_area.specs.inside.Anchors.{ShowsArea}
use Rattle.dedb_area.proofs.AnchorLemmas.{fresh_area, fresh_tells, kept_of_equals}
use Rattle.dedb_area.proofs.anchors.read_through.Goals as goal

pub returns : goal.returns
returns g c =
    let place = c.args.place.now in
    let set = c.args.set in
    let q = c.new-staging.result in
    let e = c.new-staging.ensures in
    let n = c.read_anchor-read.new.i in
    let read = c.read_anchor-read.ensures in
    let first = (g.T.Site.disk c.args.site.now).contents in
    let first_q = (g.T.Site.disk q.site.now).contents in
    let contents = ap (λ x. (g.T.Site.disk x).contents) e.site in
    -- what is kept since the `Staging` was made
    let known = read.goes_on.known q (
      refl,
      refl,
      refl,
      refl,
      kept_itself g.T.Site.told g.T.Site.disk g.T.Site.faults g.T.Site.holds g.T.Site.keeps g.T.Site.tells_reads
          g.T.Site.bytes_read q.set q.size q.count q.site.now q.pool.now (get nat_cmp q.staged),
    ) in
    let site = known.0 ∙ e.same_site in
    let pool = known.1 ∙ e.same_pool in
    let kept = kept_of_equals g.T.Site.told g.T.Site.disk g.T.Site.faults g.T.Site.holds g.T.Site.keeps
    g.T.Site.tells_reads g.T.Site.bytes_read q.set set q.size place.shape.ci q.count c.args.count n.count q.site.now
    c.args.site.now n.site.now q.pool.now c.args.pool.now n.pool.now (get nat_cmp q.staged) (get nat_cmp n.staged)
    e.set e.size e.count e.site e.pool known.4 in
    -- it shows the area
    let tells = fresh_tells g.T.Site.told g.T.Site.disk set q.set place.shape.ci q.size c.args.site.now q.site.now
    c.args.pool.now q.pool.now e.set e.size e.site e.pool in
    let area : (bytes : ℕ → List ℕ) → ShowsArea place set first c.args.pool.now bytes
    → c.args.count ≡ counted_by (Some place) (bytes 0)
    → staged_area q.count (get nat_cmp q.staged) q.pool.now first_q q.set q.size ≡ intervals_of place bytes =
    λ bytes shown count. fresh_area place set q.set q.size c.args.count q.count first first_q c.args.pool.now
    q.pool.now (get nat_cmp q.staged) bytes e.set e.size e.count contents e.pool e.none_staged shown count in
    record {
      roots = λ told bytes shown count.
          subst (λ a. IfOk c.read_anchor-read.result (HasAnchor place a c.args.anchor)) (area bytes shown count)
          (read.roots (tells told shown.told));
      damaged = λ told bytes shown count ci is.
          subst (λ a. IsUnreadable place a c.args.anchor ci) (area bytes shown count)
          (read.damaged (tells told shown.told) ci is);
      failed = λ is.
          let rose : Rose (g.T.Site.faults c.args.site.now) (g.T.Site.faults n.site.now) =
          subst (λ x. Rose (g.T.Site.faults x) (g.T.Site.faults n.site.now)) e.site (read.failed is) in
          search rules;
      unread = λ all.
          let none : ReadsNothing (g.T.Site.tells_reads c.args.site.now) (g.T.Site.tells_reads n.site.now)
          (g.T.Site.bytes_read c.args.site.now) (g.T.Site.bytes_read n.site.now) = kept.reads all in
          search rules;
      hand = λ all. let same : SameAtHand c.args.pool.now n.pool.now = kept.hand all in search rules;
      looks =
          let look : LooksAt g.T.Site.told g.T.Site.disk g.T.Site.faults g.T.Site.holds g.T.Site.keeps set
          place.shape.ci c.args.site.now n.site.now c.args.pool.now n.pool.now = kept.looks in
          search rules;
    }
