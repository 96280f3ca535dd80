use Rattle.std.proofs.Common.{◌∙◌, refl, arith}
use Rattle.std.proofs.lemmas.Result.{err_from_is_err_and}
use Rattle.seq_dependents.specs.Control.{IsKept}
use Rattle.seq_dependents.proofs.FaultLemmas.{between}
use Rattle.seq_dependents.proofs.Downs.{not_between, down_on, down_ends}
use Rattle.seq_dependents.proofs.descending.read_down.Goals.{then-loop-serial-test+else-serial-ends, else-loop-serial-test}
use Rattle.seq_dependents.proofs.descending.read_down.Goals as goal
use Rattle.ci_space.proofs.GoingLemmas.{goes_on_joined}
use Rattle.plain_laws.proofs.Results.{same_fault}

pub returns-in_err-step-clause-damaged : goal.returns-in_err-step-clause-damaged
returns-in_err-step-clause-damaged g c = λ t n e.
    let p = err_from_is_err_and c.from_residual-in_err-step.result c.from_residual-in_err-step.ensures.1 in
    let it = c.loop-serial.invariant in
    let kept : IsKept (g.I.Intervals.intervals c.args.i.now) c.loop-serial.serial =
    between (g.I.Intervals.intervals c.args.i.now) c.in_ok-ends.field-0.ends.begin c.in_ok-ends.field-0.ends.end
    c.loop-serial.serial (c.in_ok-ends.ensures.begin t) (c.in_ok-ends.ensures.end t)
    (omega (arith, c.loop-serial-test.true)) (omega (arith, c.if-serial-ends.true)) in
    rw (← it.same t) (c.in_err-step.ensures.damaged (it.goes_on.tells t) (rw (it.same t) (it.read t))
    (rw (it.same t) kept) n
    (same_fault _ _ _ _ p.1 p.2 e))

pub loop-serial-preserved : goal.loop-serial-preserved
loop-serial-preserved g c =
    let it = c.loop-serial.invariant in
    record {
      goes_on = goes_on_joined _ _ _ _ _ _ _ it.goes_on c.read_next.ensures.goes_on;
      number = c.read_next.ensures.number ∙ it.number;
      kind = c.in_ok-step.ensures.kind;
      size = c.in_ok-step.ensures.size;
      read = λ t. rw (← it.same t) (c.in_ok-step.ensures.read (it.goes_on.tells t) (rw (it.same t) (it.read t)));
      same = λ t. c.read_next.ensures.same (it.goes_on.tells t) ∙ it.same t;
      follows = λ t. down_on _ _ _ c.args.newest c.in_ok-ends.field-0.ends.begin c.in_ok-ends.field-0.ends.end
          c.loop-serial.serial _ c.loop-serial.items _ _ (it.same t) (c.in_ok-ends.ensures.begin t)
          (c.in_ok-ends.ensures.end t) (omega (arith, c.loop-serial-test.true)) (omega (arith, c.if-serial-ends.true))
          refl (c.in_ok-step.ensures.held (it.goes_on.tells t) (rw (it.same t) (it.read t))) c.in_ok-keep.ensures.ok
          (it.follows t);
    }

pub returns-clause-down : goal.returns-clause-down
returns-clause-down g c = λ t.
    let it = c.loop-serial.invariant in
    down_ends _ _ c.args.newest c.loop-serial.serial c.loop-serial.items (it.follows t)
    (not_between _ c.in_ok-ends.field-0.ends.begin c.in_ok-ends.field-0.ends.end c.loop-serial.serial
    (c.in_ok-ends.ensures.begin t) (c.in_ok-ends.ensures.end t)
    (λ l m. elim c.loop-serial-test.branch as (λ _. ⊥) [
      | then-loop-serial-test+else-serial-ends w ↦ omega (arith, m, w.if-serial-ends.false)
      | else-loop-serial-test w ↦ omega (arith, l, w.loop-serial-test.false)
    ]))
