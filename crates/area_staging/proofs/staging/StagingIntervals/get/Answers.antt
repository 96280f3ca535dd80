use Rattle.std.proofs.Common.{rules, ◌≡◌, ◌∙◌, refl, sym, subst}
use Rattle.std.specs.Prelude.{None, Some}
use Rattle.std.specs.Ordering.{nat_cmp}
use Rattle.std.specs.BTreeMap.{get}
use Rattle.ci_pool.specs.Held.{held_at}
use Rattle.held_intervals.proofs.Holds.{got, got_bad}
use Rattle.area_staging.proofs.Staged.{in_staged, in_pool, told_looked, looks_more, reads_nothing, reads_then, still_there}
use Rattle.area_staging.proofs.staging.StagingIntervals.get.Goals as goal

pub returns-in-Some-clause-ok : goal.returns-in-Some-clause-ok
returns-in-Some-clause-ok g c told =
    let s = c.args.self.now in
    let here : get nat_cmp s.staged c.args.ci ≡ Some c.in-Some.interval.now = sym c.in-Some.ensures.value in
    got _ _ c.args.ci _ c.copy_of.result c.requires
    (in_staged (get nat_cmp s.staged) s.pool.now (g.T.Site.disk s.site.now).contents s.set s.size c.args.ci
    c.in-Some.interval.now here) c.copy_of.ensures.same

pub returns-clause-ok : goal.returns-clause-ok
returns-clause-ok g c told =
    let s = c.args.self.now in
    let none : get nat_cmp s.staged c.args.ci ≡ None = search rules in
    got _ _ c.args.ci _ c.interval_at.result c.requires
    (in_pool (get nat_cmp s.staged) s.pool.now (g.T.Site.disk s.site.now).contents s.set s.size c.args.ci none)
    (c.interval_at.ensures.newest told.0 told.1.clean told.1.sizes)

pub returns-clause-bad_bytes : goal.returns-clause-bad_bytes
returns-clause-bad_bytes g c n is told =
    let s = c.args.self.now in
    let none : get nat_cmp s.staged c.args.ci ≡ None = search rules in
    got_bad _ _ c.args.ci _ c.requires
    (in_pool (get nat_cmp s.staged) s.pool.now (g.T.Site.disk s.site.now).contents s.set s.size c.args.ci none)
    (c.interval_at.ensures.bad_bytes told.0 told.1.clean told.1.sizes n is)

pub returns-clause-goes_on : goal.returns-clause-goes_on
returns-clause-goes_on g c =
    let s = c.args.self.now in
    let look = c.interval_at.ensures.looks in
    let none : get nat_cmp s.staged c.args.ci ≡ None = search rules in
    record {
      tells = λ told. (
        look.continued.still_told told.0,
        told_looked g.T.Site.told g.T.Site.disk g.T.Site.faults g.T.Site.holds g.T.Site.keeps s.set s.size s.site.now
            c.interval_at.new.site s.pool.now c.interval_at.new.pool look told.0 told.1,
      );
      same_size = refl;
      later = look.continued.later;
      known = λ first k. (
        k.0,
        k.1,
        k.2,
        k.3,
        record {
          looks = looks_more g.T.Site.told g.T.Site.disk g.T.Site.faults g.T.Site.holds g.T.Site.keeps
              (λ x t. g.met.T.Site.lawful x t) first.set s.set first.size s.size first.site.now s.site.now
              c.interval_at.new.site first.pool.now s.pool.now c.interval_at.new.pool k.2 k.3 k.4.looks look;
          grows = k.4.grows;
          reads = λ all.
              let w = still_there first.pool.now s.pool.now first.set c.args.ci first.count s.count
              (get nat_cmp first.staged) (get nat_cmp s.staged) all k.4.grows (k.4.hand all) c.requires none in
              reads_then g.T.Site.tells_reads g.T.Site.bytes_read first.site.now s.site.now c.interval_at.new.site
              (k.4.reads all)
              (reads_nothing g.T.Site.tells_reads g.T.Site.bytes_read s.site.now c.interval_at.new.site
              (c.interval_at.ensures.unasked w.0
              (subst (λ x. held_at s.pool.now x c.args.ci ≡ Some w.0) (sym k.2) w.1)));
          hand = λ all x y.
              let w = still_there first.pool.now s.pool.now first.set c.args.ci first.count s.count
              (get nat_cmp first.staged) (get nat_cmp s.staged) all k.4.grows (k.4.hand all) c.requires none in
              c.interval_at.ensures.hand w.0 (subst (λ n. held_at s.pool.now n c.args.ci ≡ Some w.0) (sym k.2) w.1) x y
              ∙ k.4.hand all x y;
        },
      );
    }
