use Rattle.std.proofs.Common.{◌≤◌, ◌∙◌, inl, inr, refl, sym, length, arith}
use Rattle.std.proofs.lemmas.Result.{err_from_is_err_and}
use Rattle.std.proofs.lemmas.Bool.{cases_lt}
use Rattle.ci_space.proofs.Going.{goes-itself}
use Rattle.ci_overflow.specs.Places.{first_independent}
use Rattle.ci_overflow.specs.Faults.{IsAtFault, in_base}
use Rattle.ci_overflow.proofs.Going.{named_fault}
use Rattle.ci_overflow.proofs.Circles.{walk-begins, walk-over, walk-round}
use Rattle.ci_overflow.proofs.FaultLemmas.{shared-fault, early-fault, late-fault}
use Rattle.ci_overflow.proofs.Knowns.{chain-over, passed-on, passed-run, listed-owned}
use Rattle.ci_overflow.proofs.Tries.{option_some, option_none, tried-some, tried-none, chain-begins, chain-found, chain-done}
use Rattle.ci_overflow.proofs.tried.walk_list.Goals as goal
use Rattle.ci_overflow.proofs.tried.walk_list.Goals.{then-turns-eq0-via-then-turns-eq0, then-turns-eq0-via-else-turns-eq0+then-ci-first_independent}
use Rattle.ci_space.proofs.GoingLemmas.{goes_on_joined}
use Rattle.plain_laws.proofs.Results.{same_fault}

pub loop-ci-init : goal.loop-ci-init
loop-ci-init g c = record {
  goes_on = goes-itself _ _ _ _ _;
  number = refl;
  same = λ t. refl;
  turns = omega arith;
  walked = λ t u b f k. walk-begins _ _ _ _ _ _ (in_base c.args.uow u refl b f) (sym f) (λ z. omega (arith, b, z))
      (omega arith);
  on_chain = λ t k. chain-begins _ _ _;
  passed = λ t k. inl (refl, refl);
}

pub returns-in-Some-clause-tried : goal.returns-in-Some-clause-tried
returns-in-Some-clause-tried g c = λ t k chain is_chain.
    let some = option_some _ _ _ c.in-Some.is (rw (c.loop-ci.invariant.same t) at
    (c.in_ok-listed.ensures.some (c.loop-ci.invariant.goes_on.tells t))) in
    tried-some _ _ _ _ _ _ (chain-found _ _ _ _ chain c.loop-ci-test.true (c.loop-ci.invariant.on_chain t k) is_chain)
    some

pub loop-ci-preserved : goal.loop-ci-preserved
loop-ci-preserved g c = record {
  goes_on = goes_on_joined _ _ _ _ _ _ _ c.loop-ci.invariant.goes_on c.try_listed.ensures.goes_on;
  number = c.try_listed.ensures.number ∙ c.loop-ci.invariant.number;
  turns = omega (arith, c.loop-ci.invariant.turns);
  walked = λ t u b f k.
      let t1 = c.loop-ci.invariant.goes_on.tells t in
      let same = c.loop-ci.invariant.same t in
      let from : first_independent c.args.shape.now ≤ c.loop-ci.ci =
      omega (arith, c.if-ci-first_independent.false, c.first_independent.ensures.number) in
      let run = option_none _ _ c.in_default.is (rw same at (c.in_ok-listed.ensures.none t1 c.args.shape.now from
      (rw same k))) in
      walk-over _ _ _ _ _ _ _ _ _ _ run (c.loop-ci.invariant.walked t u b f k)
      (omega (arith, c.loop-ci.invariant.turns, c.if-turns-eq0.false));
  same = λ t.
      option_none _ _ c.in_default.is (c.in_ok-listed.ensures.same (c.loop-ci.invariant.goes_on.tells t))
      ∙ c.loop-ci.invariant.same t;
  on_chain = λ t k.
      let t1 = c.loop-ci.invariant.goes_on.tells t in
      let same = c.loop-ci.invariant.same t in
      let from : first_independent c.args.shape.now ≤ c.loop-ci.ci =
      omega (arith, c.if-ci-first_independent.false, c.first_independent.ensures.number) in
      let run = option_none _ _ c.in_default.is (rw same at (c.in_ok-listed.ensures.none t1 c.args.shape.now from
      (rw same k))) in
      chain-over _ _ _ _ _ _ _ _ run (c.loop-ci.invariant.on_chain t k);
  passed = λ t k.
      let t1 = c.loop-ci.invariant.goes_on.tells t in
      let same = c.loop-ci.invariant.same t in
      let from : first_independent c.args.shape.now ≤ c.loop-ci.ci =
      omega (arith, c.if-ci-first_independent.false, c.first_independent.ensures.number) in
      let run = option_none _ _ c.in_default.is (rw same at (c.in_ok-listed.ensures.none t1 c.args.shape.now from
      (rw same k))) in
      passed-on _ _ _ _ _ _ _ _ _ _ (c.loop-ci.invariant.passed t k) run;
}

pub returns-in-Some-clause-run : goal.returns-in-Some-clause-run
returns-in-Some-clause-run g c = λ t k z. passed-run _ _ _ _ _ _ _ _ (c.loop-ci.invariant.passed t k) z

pub returns-clause-run : goal.returns-clause-run
returns-clause-run g c = λ t k z. passed-run _ _ _ _ _ _ _ _ (c.loop-ci.invariant.passed t k) z

pub returns-clause-tried : goal.returns-clause-tried
returns-clause-tried g c = λ t k chain is_chain.
    tried-none _ _ chain _ (chain-done _ _ _ _ chain c.loop-ci-test.false (c.loop-ci.invariant.on_chain t k) is_chain)
    (c.loop-ci.invariant.same t)

pub returns-then-turns-eq0-clause-damaged : goal.returns-then-turns-eq0-clause-damaged
returns-then-turns-eq0-clause-damaged g c = λ t u b f k n e.
    let numbered = g.met.I.Intervals.numbered c.args.i.now t in
    let walked = c.loop-ci.invariant.walked t u b f k in
    named_fault (IsAtFault c.args.shape.now (g.I.Intervals.intervals c.args.i.now)) c.loop-ci.from n e
    (elim c.then-turns-eq0.branch [
      | then-turns-eq0-via-then-turns-eq0 w ↦
          elim (cases_lt 0 (length (g.I.Intervals.intervals c.args.i.now))) as
          (λ _. IsAtFault c.args.shape.now (g.I.Intervals.intervals c.args.i.now) c.loop-ci.from) [
            | inl l ↦ walk-round _ _ _ _ _ _ walked
                (omega (arith, numbered, w.if-turns-eq0.true, c.count-turns.ensures)) l
            | inr l ↦ late-fault _ _ _ _ _ walked.holds c.loop-ci-test.true (omega (arith, l))
          ]
      | then-turns-eq0-via-else-turns-eq0+then-ci-first_independent w ↦
          early-fault _ _ _ _ _ walked.holds c.loop-ci-test.true
          (omega (arith, w.if-ci-first_independent.true, w.first_independent.ensures.number))
    ])

pub returns-in_err-listed-clause-damaged : goal.returns-in_err-listed-clause-damaged
returns-in_err-listed-clause-damaged g c = λ t u b f k n e.
    let p = err_from_is_err_and c.from_residual.result c.from_residual.ensures.1 in
    let h = rw (c.loop-ci.invariant.same t) at
    (c.in_err-listed.ensures.damaged (c.loop-ci.invariant.goes_on.tells t) n (same_fault _ _ _ _ p.1 p.2 e)) in
    shared-fault _ _ _ n (c.loop-ci.invariant.walked t u b f k).holds c.loop-ci-test.true refl h

pub returns-in-Some-clause-own : goal.returns-in-Some-clause-own
returns-in-Some-clause-own g c = λ t.
    let t1 = c.loop-ci.invariant.goes_on.tells t in
    let same = c.loop-ci.invariant.same t in
    let from : first_independent c.args.shape.now ≤ c.loop-ci.ci =
    omega (arith, c.if-ci-first_independent.false, c.first_independent.ensures.number) in
    listed-owned _ _ _ _ _ _ _ from (option_some _ _ _ c.in-Some.is (rw same at (c.in_ok-listed.ensures.some t1)))
    (option_some _ _ _ c.in-Some.is (rw same at (c.in_ok-listed.ensures.owner t1)))
