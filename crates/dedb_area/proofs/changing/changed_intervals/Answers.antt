use Rattle.std.proofs.Common.{◌≡◌, ◌*◌, ◌-◌, ◌^◌, ◌∙◌, ℕ, List, refl, sym, ap, subst, rules}
use Rattle.std.specs.Prelude.{min}
use Rattle.std.specs.Ordering.{nat_cmp}
use Rattle.std.specs.BTreeMap.{get}
use Rattle.fp_site.specs.Site.{ReadsNothing}
use Rattle.fp_lists.specs.Faults.{Rose}
use Rattle.held_intervals.specs.Holding.{held_or, listed}
use Rattle.area_states.specs.Changes.{OneChanges}
use Rattle.area_states.specs.States.{AreaState, HasState}
use Rattle.ci_pool.specs.Held.{SameAtHand}
use Rattle.area_staging.specs.Changing.{AreWithin, Shows}
use Rattle.area_staging.specs.Looking.{LooksAt}
use Rattle.area_staging.specs.Staging.{kept_itself, staged_area}
use Rattle.dedb_area.specs.Committing.{committed}
use Rattle.dedb_area.specs.inside.Committing.{IsChangedTo, OneChanged}
use Rattle.dedb_area.proofs.AnchorLemmas.{fresh_tells, kept_of_equals}
use Rattle.dedb_area.proofs.ChangedLemmas.{changed_list, fresh_list, given_all, given_then, ok_then, put_within}
use Rattle.dedb_area.proofs.Ones.{one_changed}
use Rattle.dedb_area.proofs.changing.changed_intervals.Goals as goal

pub returns : goal.returns
returns g c =
    let place = c.args.place.now in
    let area = c.args.area in
    let q = c.new-staging.result in
    let e = c.new-staging.ensures in
    let n = c.change_all-done.new.i in
    let done = c.change_all-done.ensures in
    let given = c.given-changed.ensures in
    let first = (g.T.Site.disk c.args.site.now).contents in
    let first_q = (g.T.Site.disk q.site.now).contents in
    let contents = ap (λ x. (g.T.Site.disk x).contents) e.site in
    -- what is kept since the `Staging` was made
    let known = done.goes_on.known q (
      refl,
      refl,
      refl,
      refl,
      kept_itself g.T.Site.told g.T.Site.disk g.T.Site.faults g.T.Site.holds g.T.Site.keeps g.T.Site.tells_reads
          g.T.Site.bytes_read q.set q.size q.count q.site.now q.pool.now (get nat_cmp q.staged),
    ) in
    let site = known.0 ∙ e.same_site in
    let pool = known.1 ∙ e.same_pool in
    let kept = kept_of_equals g.T.Site.told g.T.Site.disk g.T.Site.faults g.T.Site.holds g.T.Site.keeps
    g.T.Site.tells_reads g.T.Site.bytes_read q.set area.set q.size area.size q.count area.count n.count q.site.now
    c.args.site.now n.site.now q.pool.now c.args.pool.now n.pool.now (get nat_cmp q.staged) (get nat_cmp n.staged)
    e.set e.size e.count e.site e.pool known.4 in
    -- it shows the area, before the call and behind it
    let tells = fresh_tells g.T.Site.told g.T.Site.disk area.set q.set area.size q.size c.args.site.now q.site.now
    c.args.pool.now q.pool.now e.set e.size e.site e.pool in
    let same : (bytes : ℕ → List ℕ) → Shows area first c.args.pool.now bytes
    → staged_area q.count (get nat_cmp q.staged) q.pool.now first_q q.set q.size ≡ listed area.count bytes =
    λ bytes shown. fresh_list area q.set q.size q.count first first_q c.args.pool.now q.pool.now (get nat_cmp q.staged)
    bytes e.set e.size e.count contents e.pool e.none_staged shown in
    let had : (bytes : ℕ → List ℕ) → Shows area first c.args.pool.now bytes → (state : AreaState)
    → HasState place (listed area.count bytes) state
    → HasState place (staged_area q.count (get nat_cmp q.staged) q.pool.now first_q q.set q.size) state =
    λ bytes shown state has. subst (λ a. HasState place a state) (sym (same bytes shown)) has in
    let after : g.T.Site.told c.args.site.now → (bytes : ℕ → List ℕ) → Shows area first c.args.pool.now bytes
    → staged_area n.count (get nat_cmp n.staged) n.pool.now (g.T.Site.disk n.site.now).contents n.set n.size
    ≡ listed n.count (λ ci. held_or (get nat_cmp n.staged ci) (bytes ci)) =
    λ told bytes shown. changed_list area n.set n.size n.count first (g.T.Site.disk n.site.now).contents
    c.args.pool.now n.pool.now (get nat_cmp n.staged) bytes (known.2 ∙ e.set) (known.3 ∙ e.size)
    (kept.looks.stays told).contents kept.looks.cells kept.grows.fresh shown in
    record {
      changed = λ told bytes shown state has fits.
          let behind = committed place c.args.changes.now c.args.inserts.now state in
          given_then c.given-changed.result c.change_all-done.result n.staged _
          (λ m. IsChangedTo place area.count bytes behind (get nat_cmp m)) given.same given.done
          (done.changed (tells told shown.told) state (had bytes shown state has) fits)
          (λ now. record {
            after = n.count;
            no_fewer = kept.grows.no_fewer;
            fresh = kept.grows.fresh;
            has = subst (λ a. HasState place a behind) (after told bytes shown) now;
          });
      one = λ told bytes shown state has fits one.
          given_then c.given-changed.result c.change_all-done.result n.staged _
          (λ m. OneChanged area.count bytes (get nat_cmp m)) given.same given.done
          (done.one (tells told shown.told) state (had bytes shown state has) fits one)
          (λ now. one_changed area.count n.count n.size bytes (get nat_cmp n.staged) n.fit
          (subst (λ a. OneChanges a (listed n.count (λ ci. held_or (get nat_cmp n.staged ci) (bytes ci))))
          (same bytes shown) (subst (OneChanges
          (staged_area q.count (get nat_cmp q.staged) q.pool.now first_q q.set q.size)) (after told bytes shown) now)));
      within = given_all c.given-changed.result n.staged (λ m. AreWithin area (get nat_cmp m)) given.same
          (put_within area n.count n.size (get nat_cmp n.staged) (known.3 ∙ e.size) n.ends n.fit);
      room = λ told bytes shown state has fits.
          ok_then c.given-changed.result c.change_all-done.result _ given.done
          (done.room (tells told shown.told) state (had bytes shown state has) fits);
      full = λ told bytes shown state has fits set begin end m is.
          done.full (tells told shown.told) state (had bytes shown state has) fits begin end m
          (given.full set begin end m is).0;
      sound = λ told bytes shown state has fits set at is.
          let found = given.damaged set at is in
          done.sound (tells told shown.told) state (had bytes shown state has) fits found.0 found.1;
      begins = λ set at is.
          let found = given.damaged set at is in
          (found.2, (found.0, found.3 ∙ ap (λ z. min (found.0 * z) (2 ^ 64 - 1)) c.requires.size));
      here = λ set begin end m is. (given.full set begin end m is).1;
      failed = λ is.
          let rose : Rose (g.T.Site.faults c.args.site.now) (g.T.Site.faults n.site.now) =
          subst (λ x. Rose (g.T.Site.faults x) (g.T.Site.faults n.site.now)) e.site (done.failed (given.failed is)) in
          search rules;
      unread = λ all.
          let none : ReadsNothing (g.T.Site.tells_reads c.args.site.now) (g.T.Site.tells_reads n.site.now)
          (g.T.Site.bytes_read c.args.site.now) (g.T.Site.bytes_read n.site.now) = kept.reads all in
          search rules;
      hand = λ all. let same : SameAtHand c.args.pool.now n.pool.now = kept.hand all in search rules;
      looks =
          let look : LooksAt g.T.Site.told g.T.Site.disk g.T.Site.faults g.T.Site.holds g.T.Site.keeps area.set
          area.size c.args.site.now n.site.now c.args.pool.now n.pool.now = kept.looks in
          search rules;
    }
