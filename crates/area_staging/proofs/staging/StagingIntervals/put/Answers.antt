use Rattle.std.proofs.Common.{rules}
use Rattle.std.specs.Ordering.{nat_cmp}
use Rattle.std.specs.BTreeMap.{get}
use Rattle.std.proofs.lemmas.Bool.Decides.{nat_tests}
use Rattle.held_intervals.specs.Holding.{Fit}
use Rattle.held_intervals.proofs.Holds.{fit_put, fit_again, unchanged_get}
use Rattle.area_staging.proofs.Data.{by_answer}
use Rattle.area_staging.proofs.Staged.{area_put}
use Rattle.area_staging.proofs.staging.StagingIntervals.put.Goals as goal

pub invariant_of-self-clause-fit : goal.invariant_of-self-clause-fit
invariant_of-self-clause-fit g c =
    let s = c.args.self.now in
    by_answer c.insert.result _ _ (Fit s.count s.size (get nat_cmp c.insert.new.self)) c.insert.ensures.updates
    c.insert.ensures.err
    (λ updates. fit_put s.count s.size (get nat_cmp s.staged) (get nat_cmp c.insert.new.self) c.args.ci c.args.i s.fit
    c.requires.in_range c.requires.size updates.1 (λ k ne. updates.2 k (search (rules, nat_tests))))
    (λ same. fit_again s.count s.size (get nat_cmp s.staged) (get nat_cmp c.insert.new.self)
    (unchanged_get s.staged c.insert.new.self same) s.fit)

pub returns-in-Ok-clause-ok : goal.returns-in-Ok-clause-ok
returns-in-Ok-clause-ok g c told =
    let s = c.args.self.now in
    let updates = c.in-Ok.ensures.updates in
    area_put s.count (get nat_cmp s.staged) (get nat_cmp c.insert.new.self) s.pool.now
    (g.T.Site.disk s.site.now).contents s.set s.size c.args.ci c.args.i updates.1
    (λ k ne. updates.2 k (search (rules, nat_tests)))
