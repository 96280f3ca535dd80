use Rattle.std.proofs.Common.{◌≡◌, ◌∙◌, ◌<◌, ◌≤◌, false, true, inl, inr, ap, length, slice_index_or, refl, arith}
use Rattle.std.proofs.lemmas.Result.{IfOk-from_err, err_from_is_err_and}
use Rattle.ci_space.specs.Interval.{IsEmpty}
use Rattle.ci_overflow.specs.Places.{first_independent}
use Rattle.ci_overflow.specs.Faults.{FitsEmpty, IsAtFault}
use Rattle.ci_overflow.proofs.Going.{failed_then, named_fault, rose_then}
use Rattle.ci_overflow.proofs.FaultLemmas.{shared-fault, early-fault}
use Rattle.ci_overflow.proofs.JoinFaults.{empty-fits, base-moved, control-link, control-some, free-fault}
use Rattle.ci_overflow.proofs.Joins.{joins-free, base-before}
use Rattle.ci_overflow.proofs.joined.join_free.Goals as goal
use Rattle.ci_space.proofs.GoingLemmas.{goes_on_joined}
use Rattle.plain_laws.proofs.Results.{same_fault}

pub join-requires-clause-behind : goal.join-requires-clause-behind
join-requires-clause-behind g c = omega (
  arith,
  base-before c.args.shape.now c.args.uow c.requires.uow c.requires.base,
  c.first_independent.ensures.number,
  c.if-ci-first_independent.false,
)

pub returns-in_err-at-clause-goes_on : goal.returns-in_err-at-clause-goes_on
returns-in_err-at-clause-goes_on g c = goes_on_joined _ _ _ _ _ _ _
    (goes_on_joined _ _ _ _ _ _ _ c.read.ensures.goes_on c.put_counts.ensures.goes_on) c.join.ensures.goes_on

pub returns-clause-joined : goal.returns-clause-joined
returns-clause-joined g c = λ t e.
    let t1 = c.read.ensures.goes_on.tells t in
    let t2 = c.put_counts.ensures.goes_on.tells t1 in
    let from : first_independent c.args.shape.now ≤ slice_index_or c.ends-ends.result 3 0 =
    omega (arith, c.first_independent.ensures.number, c.if-ci-first_independent.false) in
    let below : slice_index_or c.ends-ends.result 3 0 < length (g.I.Intervals.intervals c.args.i.now) =
    omega (arith, g.met.I.Intervals.numbered c.args.i.now t, c.in_ok-interval.ensures.below) in
    joins-free _ _ _ _ _ _ _ _ _ _ _ _ _ e c.ends-ends.ensures refl from below (c.in_ok-interval.ensures.same t)
    (c.in_ok-interval.ensures.bytes t) c.in_ok-interval.ensures.kind c.in_ok-interval.ensures.owner
    (c.if-not-is_empty.ensures.0 refl)
    (ap (λ h. h.link) c.head-next.ensures.head) (c.in_ok-put_counts.ensures.put t1) (c.in_ok-at.ensures.joined t2)

pub returns-then-ci-first_independent-clause-damaged : goal.returns-then-ci-first_independent-clause-damaged
returns-then-ci-first_independent-clause-damaged g c = λ t e z f n i.
    named_fault (IsAtFault c.args.shape.now (g.I.Intervals.intervals c.args.i.now)) 0 n i
    (early-fault _ _ 0 0 _ (control-link _ _ _ _ e c.ends-ends.ensures) (control-some _ _ _ e c.ends-ends.ensures z)
    (omega (arith, c.if-ci-first_independent.true, c.first_independent.ensures.number)))

pub returns-in_err-interval-clause-damaged : goal.returns-in_err-interval-clause-damaged
returns-in_err-interval-clause-damaged g c = λ t e z f n i.
    let p = err_from_is_err_and c.from_residual.result c.from_residual.ensures.1 in
    shared-fault _ _ _ n (control-link _ _ _ _ e c.ends-ends.ensures) (control-some _ _ _ e c.ends-ends.ensures z) refl
    (c.in_err-interval.ensures.damaged t n (same_fault _ _ _ _ p.1 p.2 i))

pub returns-then-not-is_empty-clause-damaged : goal.returns-then-not-is_empty-clause-damaged
returns-then-not-is_empty-clause-damaged g c = λ t e z f n i.
    let below : slice_index_or c.ends-ends.result 3 0 < length (g.I.Intervals.intervals c.args.i.now) =
    omega (arith, g.met.I.Intervals.numbered c.args.i.now t, c.in_ok-interval.ensures.below) in
    let not_empty : IsEmpty c.in_ok-interval.interval → ⊥ = λ h. (let q : false ≡ true =
    c.if-not-is_empty.ensures.1 h in cc) in
    named_fault (IsAtFault c.args.shape.now (g.I.Intervals.intervals c.args.i.now))
    (slice_index_or c.ends-ends.result 3 0) n i
    (free-fault _ _ _ _ (omega (arith, c.if-ci-first_independent.false, c.first_independent.ensures.number)) below
    (c.in_ok-interval.ensures.bytes t) c.in_ok-interval.ensures.owner not_empty)

pub returns-in_err-put_counts-clause-damaged : goal.returns-in_err-put_counts-clause-damaged
returns-in_err-put_counts-clause-damaged g c = λ t e z f n i.
    let p = err_from_is_err_and c.from_residual-in_err-put_counts.result c.from_residual-in_err-put_counts.ensures.1 in
    absurd (c.in_err-put_counts.ensures.never_damaged n (same_fault _ _ _ _ p.1 p.2 i))

pub returns-in_err-at-clause-damaged : goal.returns-in_err-at-clause-damaged
returns-in_err-at-clause-damaged g c = λ t e z f n i.
    let p = err_from_is_err_and c.from_residual-in_err-at.result c.from_residual-in_err-at.ensures.1 in
    let t1 = c.read.ensures.goes_on.tells t in
    let t2 = c.put_counts.ensures.goes_on.tells t1 in
    let put = rw (c.in_ok-interval.ensures.same t) at (c.in_ok-put_counts.ensures.put t1) in
    let fits : FitsEmpty (length c.in_ok-interval.interval) c.args.needed = rw c.in_ok-interval.ensures.size f in
    elim (c.in_err-at.ensures.damaged t2 n (same_fault _ _ _ _ p.1 p.2 i)) as
    (λ _. IsAtFault c.args.shape.now (g.I.Intervals.intervals c.args.i.now) n) [
      | inl h ↦ base-moved _ _ _ _ _ _ _ _ c.requires.uow c.requires.base put h
      | inr h ↦ absurd (empty-fits _ _ (c.if-not-is_empty.ensures.0 refl) fits h.1)
    ]

-- ---- what each exit says besides

pub returns-in_err-interval-clause-joined : goal.returns-in_err-interval-clause-joined
returns-in_err-interval-clause-joined g c = λ t e. IfOk-from_err c.from_residual.result _ c.from_residual.ensures.0

pub returns-in_err-interval-clause-in_range : goal.returns-in_err-interval-clause-in_range
returns-in_err-interval-clause-in_range g c = IfOk-from_err c.from_residual.result _ c.from_residual.ensures.0

pub returns-in_err-interval-clause-failed : goal.returns-in_err-interval-clause-failed
returns-in_err-interval-clause-failed g c = rose_then c.from_residual.result _ _ _ _ c.from_residual.ensures.1
    (omega arith) c.in_err-interval.ensures.failed

pub returns-in_err-put_counts-clause-joined : goal.returns-in_err-put_counts-clause-joined
returns-in_err-put_counts-clause-joined g c = λ t e. IfOk-from_err c.from_residual-in_err-put_counts.result _
    c.from_residual-in_err-put_counts.ensures.0

pub returns-in_err-put_counts-clause-in_range : goal.returns-in_err-put_counts-clause-in_range
returns-in_err-put_counts-clause-in_range g c = IfOk-from_err c.from_residual-in_err-put_counts.result _
    c.from_residual-in_err-put_counts.ensures.0

pub returns-in_err-put_counts-clause-failed : goal.returns-in_err-put_counts-clause-failed
returns-in_err-put_counts-clause-failed g c = failed_then c.from_residual-in_err-put_counts.result _
    c.from_residual-in_err-put_counts.ensures.1
    c.in_err-put_counts.ensures.never_failed

pub returns-in_err-put_counts-clause-number : goal.returns-in_err-put_counts-clause-number
returns-in_err-put_counts-clause-number g c = c.put_counts.ensures.number ∙ c.read.ensures.number

pub returns-in_err-put_counts-clause-goes_on : goal.returns-in_err-put_counts-clause-goes_on
returns-in_err-put_counts-clause-goes_on g c = goes_on_joined _ _ _ _ _ _ _ c.read.ensures.goes_on
    c.put_counts.ensures.goes_on

pub returns-in_err-at-clause-joined : goal.returns-in_err-at-clause-joined
returns-in_err-at-clause-joined g c = λ t e. IfOk-from_err c.from_residual-in_err-at.result _
    c.from_residual-in_err-at.ensures.0

pub returns-in_err-at-clause-in_range : goal.returns-in_err-at-clause-in_range
returns-in_err-at-clause-in_range g c = IfOk-from_err c.from_residual-in_err-at.result _
    c.from_residual-in_err-at.ensures.0

pub returns-in_err-at-clause-failed : goal.returns-in_err-at-clause-failed
returns-in_err-at-clause-failed g c = rose_then c.from_residual-in_err-at.result _ _ _ _
    c.from_residual-in_err-at.ensures.1
    (omega (arith, c.read.ensures.goes_on.later, c.put_counts.ensures.goes_on.later)) c.in_err-at.ensures.failed

pub returns-in_err-at-clause-number : goal.returns-in_err-at-clause-number
returns-in_err-at-clause-number g c = c.join.ensures.number ∙ c.put_counts.ensures.number ∙ c.read.ensures.number

pub returns-clause-number : goal.returns-clause-number
returns-clause-number g c = c.join.ensures.number ∙ c.put_counts.ensures.number ∙ c.read.ensures.number

pub returns-clause-goes_on : goal.returns-clause-goes_on
returns-clause-goes_on g c = goes_on_joined _ _ _ _ _ _ _ (goes_on_joined _ _ _ _ _ _ _ c.read.ensures.goes_on
    c.put_counts.ensures.goes_on) c.join.ensures.goes_on
