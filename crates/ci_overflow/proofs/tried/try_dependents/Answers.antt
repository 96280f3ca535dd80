use Rattle.std.proofs.Common.{◌+◌, ◌∙◌, refl, arith}
use Rattle.std.proofs.lemmas.Result.{err_from_is_err_and}
use Rattle.ci_space.proofs.Going.{goes-itself}
use Rattle.ci_overflow.proofs.FaultLemmas.{dependent-fault}
use Rattle.ci_overflow.proofs.Knowns.{dependent-found, dependent-full, dependents-full, known-same, known-taken, known-so_far}
use Rattle.ci_overflow.proofs.Tries.{gives-taken, gives-full, tried-none}
use Rattle.ci_overflow.proofs.tried.try_dependents.Goals as goal
use Rattle.ci_space.proofs.GoingLemmas.{goes_on_joined}
use Rattle.plain_laws.proofs.Results.{same_fault}

pub loop-number-init : goal.loop-number-init
loop-number-init g c = record {
  goes_on = goes-itself _ _ _ _ _;
  number = refl;
  known = refl;
  same = λ t. refl;
  within = λ t k. k.few;
  full = λ t k. k.dependents;
}

pub loop-number-preserved : goal.loop-number-preserved
loop-number-preserved g c =
    record {
      goes_on = goes_on_joined _ _ _ _ _ _ _ c.loop-number.invariant.goes_on c.try_take.ensures.goes_on;
      number = c.try_take.ensures.number ∙ c.loop-number.invariant.number;
      known = c.loop-number.invariant.known;
      same = λ t. (gives-full _ _ _ _ _ (rw (c.loop-number.invariant.same t) at
          (c.in_ok-tried.ensures.tried (c.loop-number.invariant.goes_on.tells t))) c.in_default.is).1;
      within = λ t k. omega (arith, c.loop-number-test.true);
      full = λ t k. dependent-full c.args.shape.now _ c.args.uow _ c.loop-number.number _
          (c.loop-number.invariant.full t k)
          (omega (arith, c.first_base.ensures.number, c.from.ensures, c.from-in-loop-number.ensures))
          (gives-full _ _ _ _ _ (rw (c.loop-number.invariant.same t) at
          (c.in_ok-tried.ensures.tried (c.loop-number.invariant.goes_on.tells t))) c.in_default.is).0;
    }

pub returns-in-Some-clause-tried : goal.returns-in-Some-clause-tried
returns-in-Some-clause-tried g c = λ t k.
    let tried = rw (c.loop-number.invariant.same t) at
    (c.in_ok-tried.ensures.tried (c.loop-number.invariant.goes_on.tells t)) in
    dependent-found c.args.shape.now _ _ c.args.uow _ c.loop-number.number _ _ (omega (arith, c.loop-number-test.true))
    (c.loop-number.invariant.full t k)
    (omega (arith, c.first_base.ensures.number, c.from.ensures, c.from-in-loop-number.ensures))
    (gives-taken _ _ _ _ _ _ tried c.in-Some.is)

pub returns-in-Some-clause-known : goal.returns-in-Some-clause-known
returns-in-Some-clause-known g c = λ t k.
    let tried = rw (c.loop-number.invariant.same t) at
    (c.in_ok-tried.ensures.tried (c.loop-number.invariant.goes_on.tells t)) in
    known-taken c.args.shape.now _ _ c.args.uow _ _ _ _ _ (gives-taken _ _ _ _ _ _ tried c.in-Some.is)
    (known-so_far c.args.shape.now _ c.args.uow _ c.loop-number.number c.args.known.now _
    c.loop-number.invariant.known (omega (arith, c.loop-number-test.true)) (c.loop-number.invariant.full t k) k)

pub returns-clause-tried : goal.returns-clause-tried
returns-clause-tried g c = λ t k.
    tried-none _ _ _ _ (dependents-full c.args.shape.now _ c.args.uow _ c.loop-number.number
    (c.loop-number.invariant.within t k) (omega (arith, c.loop-number-test.false))
    (c.loop-number.invariant.full t k)) (c.loop-number.invariant.same t)

pub returns-clause-known : goal.returns-clause-known
returns-clause-known g c = λ t k.
    known-same c.args.shape.now _ _ c.args.uow _ _ (c.loop-number.invariant.same t)
    (known-so_far c.args.shape.now _ c.args.uow _ c.args.shape.now.overflow c.args.known.now _
    c.loop-number.invariant.known (omega arith)
    (dependents-full c.args.shape.now _ c.args.uow _ c.loop-number.number (c.loop-number.invariant.within t k)
    (omega (arith, c.loop-number-test.false)) (c.loop-number.invariant.full t k)) k)

pub returns-in_err-tried-clause-damaged : goal.returns-in_err-tried-clause-damaged
returns-in_err-tried-clause-damaged g c = λ t u n e.
    let p = err_from_is_err_and c.from_residual.result c.from_residual.ensures.1 in
    let h = rw (c.loop-number.invariant.same t) at
    (c.in_err-tried.ensures.damaged (c.loop-number.invariant.goes_on.tells t) n (same_fault _ _ _ _ p.1 p.2 e)) in
    dependent-fault _ _ c.args.uow (c.args.shape.now.base + c.loop-number.number) _ n
    (omega (arith, c.first_base.ensures.number, c.from.ensures, c.from-in-loop-number.ensures)) u
    (omega arith) (omega (arith, c.loop-number-test.true)) h
