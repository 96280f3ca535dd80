use Rattle.std.proofs.Common.{rules, ◌≡◌, sym, refl, arith}
use Rattle.std.specs.Prelude.{None, Some, Ok}
use Rattle.std.specs.Ordering.{nat_cmp}
use Rattle.std.specs.BTreeMap.{get}
use Rattle.std.proofs.lemmas.Bool.Decides.{nat_tests}
use Rattle.std.proofs.lemmas.Result.{err_from_is_err_and}
use Rattle.ci_space.specs.declared.intervals.GetFault.{GetFault}
use Rattle.held_intervals.proofs.Holds.{got, in_changed, in_area, read_size, bad_area, told_look, told_read, keeps_on, front_same, fit_more, unchanged_get, read_same}
use Rattle.held_intervals.proofs.held.HeldIntervals.get.Goals as goal

pub returns-in-Some-clause-ok : goal.returns-in-Some-clause-ok
returns-in-Some-clause-ok g c told =
    let s = c.args.self.now in
    let here : get nat_cmp s.changed c.args.ci ≡ Some c.in-Some.interval.now = sym c.in-Some.ensures.value in
    got _ _ c.args.ci _ c.copy_of.result c.requires
    (in_changed (get nat_cmp s.changed) (g.I.Intervals.intervals s.under.now) c.args.ci c.in-Some.interval.now here)
    c.copy_of.ensures.same

pub returns-in-Some-get-clause-ok : goal.returns-in-Some-get-clause-ok
returns-in-Some-get-clause-ok g c told =
    let s = c.args.self.now in
    let none : get nat_cmp s.changed c.args.ci ≡ None = search rules in
    let here : get nat_cmp s.read c.args.ci ≡ Some c.in-Some-get.interval.now = sym c.in-Some-get.ensures.value in
    got _ _ c.args.ci _ c.copy_of-in-Some-get.result c.requires
    (in_area (get nat_cmp s.changed) (g.I.Intervals.intervals s.under.now) c.args.ci c.in-Some-get.interval.now none
    (told.1.are_read c.args.ci c.in-Some-get.interval.now here))
    c.copy_of-in-Some-get.ensures.same

pub returns-in-Some-get-clause-bad_bytes : goal.returns-in-Some-get-clause-bad_bytes
returns-in-Some-get-clause-bad_bytes g c n e told =
    let s = c.args.self.now in
    let here : get nat_cmp s.read c.args.ci ≡ Some c.in-Some-get.interval.now = sym c.in-Some-get.ensures.value in
    absurd (c.copy_of-in-Some-get.ensures.other_size n e
    (read_size _ _ _ s.size (get nat_cmp s.read) (get nat_cmp s.changed) c.args.ci c.in-Some-get.interval.now told.1
    (g.met.I.Intervals.sized s.under.now told.0) (g.met.I.Intervals.numbered s.under.now told.0) c.requires here))

pub returns-in_err-interval-clause-bad_bytes : goal.returns-in_err-interval-clause-bad_bytes
returns-in_err-interval-clause-bad_bytes g c n e told =
    let s = c.args.self.now in
    let p = err_from_is_err_and c.from_residual.result c.from_residual.ensures.1 in
    let none : get nat_cmp s.changed c.args.ci ≡ None = search rules in
    bad_area _ c.args.ci (get nat_cmp s.changed) (g.I.Intervals.intervals s.under.now) c.requires
    (g.met.I.Intervals.numbered s.under.now told.0) none
    (c.get-3.ensures.bad_bytes n (cc (p.1, p.2, c.in_err-interval.was)) told.0)

pub returns-in_err-interval-clause-goes_on : goal.returns-in_err-interval-clause-goes_on
returns-in_err-interval-clause-goes_on g c =
    let s = c.args.self.now in
    let x = c.get-3.ensures in
    record {
      tells = λ told. (
        x.goes_on.tells told.0,
        told_look _ _ _ _ _ _ _ _ _ x.number x.goes_on.same_size (x.same told.0) told.1,
      );
      same_size = refl;
      later = x.goes_on.later;
      known = λ first k. (
        k.0,
        keeps_on _ _ _ _ _ _ _ _ _ _ _ _ _ _ _ k.1 x.goes_on (omega (arith, x.number))
            (λ t. front_same _ _ (x.same t)) refl (λ e f. fit_more _ _ _ _ (omega (arith, x.number)) f),
      );
    }

pub returns-in_err-copy-clause-goes_on : goal.returns-in_err-copy-clause-goes_on
returns-in_err-copy-clause-goes_on g c =
    let s = c.args.self.now in
    let x = c.get-3.ensures in
    record {
      tells = λ told. (
        x.goes_on.tells told.0,
        told_look _ _ _ _ _ _ _ _ _ x.number x.goes_on.same_size (x.same told.0) told.1,
      );
      same_size = refl;
      later = x.goes_on.later;
      known = λ first k. (
        k.0,
        keeps_on _ _ _ _ _ _ _ _ _ _ _ _ _ _ _ k.1 x.goes_on (omega (arith, x.number))
            (λ t. front_same _ _ (x.same t)) refl (λ e f. fit_more _ _ _ _ (omega (arith, x.number)) f),
      );
    }

pub returns-in-Ok-clause-ok : goal.returns-in-Ok-clause-ok
returns-in-Ok-clause-ok g c told =
    let s = c.args.self.now in
    let none : get nat_cmp s.changed c.args.ci ≡ None = search rules in
    got {E = GetFault} _ _ c.args.ci _ (Ok c.in_ok-copy.copy) c.requires
    (in_area (get nat_cmp s.changed) (g.I.Intervals.intervals s.under.now) c.args.ci c.in_ok-interval.interval none
    (c.in_ok-interval.ensures.ok told.0))
    c.in_ok-copy.ensures.same

pub returns-in-Ok-clause-goes_on : goal.returns-in-Ok-clause-goes_on
returns-in-Ok-clause-goes_on g c =
    let s = c.args.self.now in
    let x = c.get-3.ensures in
    let updates = c.in-Ok.ensures.updates in
    record {
      tells = λ told. (
        x.goes_on.tells told.0,
        told_look _ _ _ _ _ _ _ _ _ x.number x.goes_on.same_size (x.same told.0)
            (told_read _ _ _ _ (get nat_cmp s.read) _ _ c.args.ci c.in_ok-interval.interval told.1
            (c.in_ok-interval.ensures.ok told.0) updates.1 (λ k ne. updates.2 k (search (rules, nat_tests)))),
      );
      same_size = refl;
      later = x.goes_on.later;
      known = λ first k. (
        k.0,
        keeps_on _ _ _ _ _ _ _ _ _ _ _ _ _ _ _ k.1 x.goes_on (omega (arith, x.number))
            (λ t. front_same _ _ (x.same t)) refl (λ e f. fit_more _ _ _ _ (omega (arith, x.number)) f),
      );
    }

pub returns-in-Err-clause-goes_on : goal.returns-in-Err-clause-goes_on
returns-in-Err-clause-goes_on g c =
    let s = c.args.self.now in
    let x = c.get-3.ensures in
    let same = unchanged_get s.read c.insert.new.self c.in-Err.ensures.err in
    record {
      tells = λ told. (
        x.goes_on.tells told.0,
        (let t = told_look _ _ _ _ _ _ _ _ _ x.number x.goes_on.same_size (x.same told.0) told.1 in
            record {
              same_size = t.same_size;
              are_read = read_same _ (get nat_cmp s.read) _ same t.are_read;
              fit = t.fit;
            }),
      );
      same_size = refl;
      later = x.goes_on.later;
      known = λ first k. (
        k.0,
        keeps_on _ _ _ _ _ _ _ _ _ _ _ _ _ _ _ k.1 x.goes_on (omega (arith, x.number))
            (λ t. front_same _ _ (x.same t)) refl (λ e f. fit_more _ _ _ _ (omega (arith, x.number)) f),
      );
    }
