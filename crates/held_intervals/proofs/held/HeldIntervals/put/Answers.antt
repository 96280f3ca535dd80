use Rattle.std.proofs.Common.{rules, refl, arith}
use Rattle.std.specs.Ordering.{nat_cmp}
use Rattle.std.specs.BTreeMap.{get}
use Rattle.std.proofs.lemmas.Bool.Decides.{nat_tests}
use Rattle.held_intervals.proofs.Holds.{put_here, told_put, fit_put, keeps_on, front_same, goes_itself, unchanged_get, fit_again}
use Rattle.held_intervals.proofs.held.HeldIntervals.put.Goals as goal

pub returns-in-Ok-clause-ok : goal.returns-in-Ok-clause-ok
returns-in-Ok-clause-ok g c told =
    let s = c.args.self.now in
    let updates = c.in-Ok.ensures.updates in
    put_here (get nat_cmp s.changed) (get nat_cmp c.insert.new.self) (g.I.Intervals.intervals s.under.now) _ c.args.ci
    c.args.i updates.1 (λ k ne. updates.2 k (search (rules, nat_tests)))

pub returns-in-Ok-clause-goes_on : goal.returns-in-Ok-clause-goes_on
returns-in-Ok-clause-goes_on g c =
    let s = c.args.self.now in
    let updates = c.in-Ok.ensures.updates in
    record {
      tells = λ told. (
        told.0,
        told_put _ _ _ _ _ (get nat_cmp s.changed) (get nat_cmp c.insert.new.self) c.args.ci
            c.args.i told.1 c.requires.in_range c.requires.size updates.1
            (λ k ne. updates.2 k (search (rules, nat_tests))),
      );
      same_size = refl;
      later = omega arith;
      known = λ first k. (
        k.0,
        keeps_on _ _ _ _ _ _ _ _ _ _ _ _ _ _ _ k.1 (goes_itself _ _ _ _ _) (omega arith)
            (λ t. front_same _ _ refl) refl
            (λ e f. fit_put _ _ (get nat_cmp s.changed) _ c.args.ci c.args.i f c.requires.in_range c.requires.size
            updates.1 (λ q ne. updates.2 q (search (rules, nat_tests)))),
      );
    }

pub returns-clause-goes_on : goal.returns-clause-goes_on
returns-clause-goes_on g c =
    let s = c.args.self.now in
    let same = unchanged_get s.changed c.insert.new.self c.in-Err.ensures.err in
    record {
      tells = λ told. (
        told.0,
        record {
          same_size = told.1.same_size;
          are_read = told.1.are_read;
          fit = fit_again _ _ (get nat_cmp s.changed) _ same told.1.fit;
        },
      );
      same_size = refl;
      later = omega arith;
      known = λ first k. (
        k.0,
        keeps_on _ _ _ _ _ _ _ _ _ _ _ _ _ _ _ k.1 (goes_itself _ _ _ _ _) (omega arith)
            (λ t. front_same _ _ refl) refl (λ e f. fit_again _ _ (get nat_cmp s.changed) _ same f),
      );
    }
