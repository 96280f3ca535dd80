use Rattle.std.proofs.Common.{rules, ◌≡◌, ◌∙◌, ◌++◌, ◌∷◌, [], refl, ap}
use Rattle.std.specs.Prelude.{Some}
use Rattle.std.specs.Ordering.{nat_cmp}
use Rattle.std.specs.BTreeMap.{get}
use Rattle.std.proofs.lemmas.Bool.Decides.{nat_tests}
use Rattle.ci_space.specs.Interval.{empty_bytes}
use Rattle.ci_pool.specs.Held.{Held, held_at}
use Rattle.held_intervals.proofs.Holds.{fit_again, unchanged_get}
use Rattle.area_staging.proofs.Staged.{area_more, area_looked, fit_one_more, grows_more, grows_same, told_looked, looks_more, reads_then}
use Rattle.area_staging.proofs.staging.StagingIntervals.extend.Goals as goal

pub returns-in_err-may_grow-clause-goes_on : goal.returns-in_err-may_grow-clause-goes_on
returns-in_err-may_grow-clause-goes_on g c =
    let s = c.args.self.now in
    let look = c.may_grow.ensures.looks in
    record {
      tells = λ told. (
        look.continued.still_told told.0,
        told_looked g.T.Site.told g.T.Site.disk g.T.Site.faults g.T.Site.holds g.T.Site.keeps s.set s.size s.site.now
            c.may_grow.new.site s.pool.now c.may_grow.new.pool look told.0 told.1,
      );
      same_size = refl;
      later = look.continued.later;
      known = λ first k. (
        k.0,
        k.1,
        k.2,
        k.3,
        record {
          looks = looks_more g.T.Site.told g.T.Site.disk g.T.Site.faults g.T.Site.holds g.T.Site.keeps
              (λ x t. g.met.T.Site.lawful x t) first.set s.set first.size s.size first.site.now s.site.now
              c.may_grow.new.site first.pool.now s.pool.now c.may_grow.new.pool k.2 k.3 k.4.looks look;
          grows = k.4.grows;
          reads = λ all. reads_then g.T.Site.tells_reads g.T.Site.bytes_read first.site.now s.site.now
              c.may_grow.new.site (k.4.reads all) c.may_grow.ensures.reads;
          hand = λ all x y. ap (λ (p : Held). held_at p x y) c.may_grow.ensures.pool ∙ k.4.hand all x y;
        },
      );
    }

pub returns-in_err-interval-clause-goes_on : goal.returns-in_err-interval-clause-goes_on
returns-in_err-interval-clause-goes_on g c =
    let s = c.args.self.now in
    let look = c.may_grow.ensures.looks in
    record {
      tells = λ told. (
        look.continued.still_told told.0,
        told_looked g.T.Site.told g.T.Site.disk g.T.Site.faults g.T.Site.holds g.T.Site.keeps s.set s.size s.site.now
            c.may_grow.new.site s.pool.now c.may_grow.new.pool look told.0 told.1,
      );
      same_size = refl;
      later = look.continued.later;
      known = λ first k. (
        k.0,
        k.1,
        k.2,
        k.3,
        record {
          looks = looks_more g.T.Site.told g.T.Site.disk g.T.Site.faults g.T.Site.holds g.T.Site.keeps
              (λ x t. g.met.T.Site.lawful x t) first.set s.set first.size s.size first.site.now s.site.now
              c.may_grow.new.site first.pool.now s.pool.now c.may_grow.new.pool k.2 k.3 k.4.looks look;
          grows = k.4.grows;
          reads = λ all. reads_then g.T.Site.tells_reads g.T.Site.bytes_read first.site.now s.site.now
              c.may_grow.new.site (k.4.reads all) c.may_grow.ensures.reads;
          hand = λ all x y. ap (λ (p : Held). held_at p x y) c.may_grow.ensures.pool ∙ k.4.hand all x y;
        },
      );
    }

pub invariant_of-self-in-Err-clause-fit : goal.invariant_of-self-in-Err-clause-fit
invariant_of-self-in-Err-clause-fit g c =
    let s = c.args.self.now in
    fit_again s.count s.size (get nat_cmp s.staged) (get nat_cmp c.insert.new.self)
    (unchanged_get s.staged c.insert.new.self c.in-Err.ensures.err) s.fit

pub returns-in-Err-clause-goes_on : goal.returns-in-Err-clause-goes_on
returns-in-Err-clause-goes_on g c =
    let s = c.args.self.now in
    let look = c.may_grow.ensures.looks in
    record {
      tells = λ told. (
        look.continued.still_told told.0,
        told_looked g.T.Site.told g.T.Site.disk g.T.Site.faults g.T.Site.holds g.T.Site.keeps s.set s.size s.site.now
            c.may_grow.new.site s.pool.now c.may_grow.new.pool look told.0 told.1,
      );
      same_size = refl;
      later = look.continued.later;
      known = λ first k. (
        k.0,
        k.1,
        k.2,
        k.3,
        record {
          looks = looks_more g.T.Site.told g.T.Site.disk g.T.Site.faults g.T.Site.holds g.T.Site.keeps
              (λ x t. g.met.T.Site.lawful x t) first.set s.set first.size s.size first.site.now s.site.now
              c.may_grow.new.site first.pool.now s.pool.now c.may_grow.new.pool k.2 k.3 k.4.looks look;
          grows = grows_same first.count c.args.self.now.count (get nat_cmp first.staged) (get nat_cmp c.args.self.now.staged)
              (get nat_cmp c.insert.new.self) (unchanged_get c.args.self.now.staged c.insert.new.self c.in-Err.ensures.err) k.4.grows;
          reads = λ all. reads_then g.T.Site.tells_reads g.T.Site.bytes_read first.site.now s.site.now
              c.may_grow.new.site (k.4.reads all) c.may_grow.ensures.reads;
          hand = λ all x y. ap (λ (p : Held). held_at p x y) c.may_grow.ensures.pool ∙ k.4.hand all x y;
        },
      );
    }

pub invariant_of-self-2-clause-fit : goal.invariant_of-self-2-clause-fit
invariant_of-self-2-clause-fit g c =
    let s = c.args.self.now in
    let updates = c.in-Ok.ensures.updates in
    fit_one_more s.count s.size (get nat_cmp s.staged) (get nat_cmp c.insert.new.self) c.in_ok-interval.interval s.fit
    c.in_ok-interval.ensures.size updates.1 (λ k ne. updates.2 k (search (rules, nat_tests)))

pub returns-clause-ok : goal.returns-clause-ok
returns-clause-ok g c told =
    let s = c.args.self.now in
    let updates = c.in-Ok.ensures.updates in
    let here : get nat_cmp c.insert.new.self s.count ≡ Some (empty_bytes s.size 5) =
    updates.1 ∙ ap Some c.in_ok-interval.ensures.bytes in
    area_more s.count (get nat_cmp s.staged) (get nat_cmp c.insert.new.self) c.may_grow.new.pool
    (g.T.Site.disk c.may_grow.new.site).contents s.set s.size (empty_bytes s.size 5) here
    (λ k ne. updates.2 k (search (rules, nat_tests)))
    ∙ ap (λ l. l ++ empty_bytes s.size 5 ∷ [])
    (area_looked g.T.Site.told g.T.Site.disk g.T.Site.faults g.T.Site.holds g.T.Site.keeps s.count
    (get nat_cmp s.staged) s.set s.size s.site.now c.may_grow.new.site s.pool.now c.may_grow.new.pool
    c.may_grow.ensures.looks told.0)

pub returns-clause-goes_on : goal.returns-clause-goes_on
returns-clause-goes_on g c =
    let s = c.args.self.now in
    let look = c.may_grow.ensures.looks in
    record {
      tells = λ told. (
        look.continued.still_told told.0,
        told_looked g.T.Site.told g.T.Site.disk g.T.Site.faults g.T.Site.holds g.T.Site.keeps s.set s.size s.site.now
            c.may_grow.new.site s.pool.now c.may_grow.new.pool look told.0 told.1,
      );
      same_size = refl;
      later = look.continued.later;
      known = λ first k. (
        k.0,
        k.1,
        k.2,
        k.3,
        record {
          looks = looks_more g.T.Site.told g.T.Site.disk g.T.Site.faults g.T.Site.holds g.T.Site.keeps
              (λ x t. g.met.T.Site.lawful x t) first.set s.set first.size s.size first.site.now s.site.now
              c.may_grow.new.site first.pool.now s.pool.now c.may_grow.new.pool k.2 k.3 k.4.looks look;
          grows = grows_more first.count c.args.self.now.count (get nat_cmp first.staged) (get nat_cmp c.args.self.now.staged)
              (get nat_cmp c.insert.new.self) c.in_ok-interval.interval k.4.grows c.in-Ok.ensures.updates.1
              (λ q ne. c.in-Ok.ensures.updates.2 q (search (rules, nat_tests)));
          reads = λ all. reads_then g.T.Site.tells_reads g.T.Site.bytes_read first.site.now s.site.now
              c.may_grow.new.site (k.4.reads all) c.may_grow.ensures.reads;
          hand = λ all x y. ap (λ (p : Held). held_at p x y) c.may_grow.ensures.pool ∙ k.4.hand all x y;
        },
      );
    }
