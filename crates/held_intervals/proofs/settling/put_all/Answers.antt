use Rattle.std.proofs.Common.{rules, ◌≡◌, sym, ap, ◌∙◌, ℕ}
use Rattle.std.specs.Prelude.{Some, None}
use Rattle.std.specs.Ordering.{nat_cmp}
use Rattle.std.specs.BTreeMap.{get}
use Rattle.std.proofs.lemmas.Bool.Decides.{nat_tests}
use Rattle.held_intervals.specs.Holding.{overlaid}
use Rattle.held_intervals.proofs.Holds.{none_changed, fit_same, fit_popped, popped}
use Rattle.held_intervals.proofs.settling.put_all.Goals as goal
use Rattle.ci_space.proofs.GoingLemmas.{goes_on_joined}
use Rattle.plain_laws.proofs.Alls.{no_entries}

pub loop-ci-preserved : goal.loop-ci-preserved
loop-ci-preserved g c =
    let inv = c.loop-ci.invariant in
    let ci = c.in-Some.ci in
    let left = get nat_cmp c.loop-ci.left in
    let after = get nat_cmp c.pop_first.new.self in
    let was : left ci ≡ Some c.in-Some.interval = c.in-Some.ensures.value in
    let gone : after ci ≡ None = c.in-Some.ensures.updates.1 in
    let others : (k : ℕ) → (k ≡ ci → ⊥) → after k ≡ left k =
    λ k ne. c.in-Some.ensures.updates.2 k (search (rules, nat_tests)) in
    let number = c.put.ensures.number in
    record {
      number = number ∙ inv.number;
      goes_on = goes_on_joined _ _ _ _ _ _ _ inv.goes_on c.put.ensures.goes_on;
      fit = fit_same _ _ _ _ after number c.put.ensures.goes_on.same_size (fit_popped _ _ left after ci inv.fit gone
          others);
      same = λ told.
          let now = inv.goes_on.tells told in
          let lt = (inv.fit ci c.in-Some.interval was).0 in
          ap (λ n. overlaid n after (g.I.Intervals.intervals c.put.new.self)) number
          ∙ popped _ left after _ _ ci c.in-Some.interval (g.met.I.Intervals.numbered c.loop-ci.i now) lt was gone
          others
          (c.in_ok-put.ensures.ok now)
          ∙ inv.same told;
    }

pub returns-clause-put : goal.returns-clause-put
returns-clause-put g c = λ told.
    let inv = c.loop-ci.invariant in
    let left = get nat_cmp c.loop-ci.left in
    let none : (k : ℕ) → left k ≡ None = λ k. no_entries _ c.loop-ci.left.entries c.in_default.ensures.variant.1 in
    sym (none_changed left (g.I.Intervals.intervals c.loop-ci.i) _ (g.met.I.Intervals.numbered c.loop-ci.i
    (inv.goes_on.tells told)) none)
    ∙ inv.same told
