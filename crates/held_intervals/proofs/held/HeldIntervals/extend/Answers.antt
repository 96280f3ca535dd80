use Rattle.std.proofs.Common.{refl}
use Rattle.std.specs.Ordering.{nat_cmp}
use Rattle.std.specs.BTreeMap.{get}
use Rattle.held_intervals.proofs.Holds.{extended_ok, told_more, keeps_on, front_extended, not_fewer, fit_more}
use Rattle.held_intervals.proofs.held.HeldIntervals.extend.Goals as goal

pub returns-clause-ok : goal.returns-clause-ok
returns-clause-ok g c told =
    let s = c.args.self.now in
    extended_ok c.extend.result (get nat_cmp s.changed) _ _ _ _ _ s.size (c.extend.ensures.ok told.0)
    c.extend.ensures.grown told.1.fit (g.met.I.Intervals.numbered s.under.now told.0) told.1.same_size

pub returns-clause-goes_on : goal.returns-clause-goes_on
returns-clause-goes_on g c =
    let s = c.args.self.now in
    let x = c.extend.ensures in
    let more = not_fewer c.extend.result _ _ x.grown x.err_number in
    record {
      tells = λ told. (
        x.goes_on.tells told.0,
        told_more _ _ _ _ _ _ _ _ _ more x.goes_on.same_size
            (front_extended c.extend.result _ _ _ (x.ok told.0) (x.err told.0)) told.1,
      );
      same_size = refl;
      later = x.goes_on.later;
      known = λ first k. (
        k.0,
        keeps_on _ _ _ _ _ _ _ _ _ _ _ _ _ _ _ k.1 x.goes_on more
            (λ t. front_extended c.extend.result _ _ _ (x.ok t) (x.err t)) refl (λ e f. fit_more _ _ _ _ more f),
      );
    }
