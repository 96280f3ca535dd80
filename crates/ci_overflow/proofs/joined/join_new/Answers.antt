use Rattle.std.proofs.Common.{◌≤◌, ◌-◌, inl, inr, ◌∙◌, length, sym, ap, arith}
use Rattle.std.proofs.lemmas.Result.{IfOk-from_err, err_from_is_err_and}
use Rattle.ci_space.specs.Interval.{IsEmpty}
use Rattle.ci_overflow.specs.Places.{first_independent}
use Rattle.ci_overflow.specs.Lists.{bytes_at}
use Rattle.ci_overflow.specs.Faults.{FitsEmpty, IsAtFault}
use Rattle.ci_overflow.proofs.Going.{damaged_then, failed_then, named_fault, rose_then}
use Rattle.ci_overflow.proofs.JoinFaults.{empty-fits, base-grown, count-fault, new-there, new-empty}
use Rattle.ci_overflow.proofs.Joins.{joins-new, base-before}
use Rattle.ci_overflow.proofs.joined.join_new.Goals as goal
use Rattle.ci_overflow.proofs.joined.join_new.Goals.{then-ci-first_independent-via-then-ci-first_independent, then-ci-first_independent-via-else-ci-first_independent+then-ends-ci}
use Rattle.ci_space.proofs.GoingLemmas.{goes_on_joined}
use Rattle.plain_laws.proofs.Results.{same_fault}

pub join-requires-clause-behind : goal.join-requires-clause-behind
join-requires-clause-behind g c = omega (
  arith,
  base-before c.args.shape.now c.args.uow c.requires.uow c.requires.base,
  c.first_independent.ensures.number,
  c.if-ci-first_independent.false,
)

pub returns-clause-joined : goal.returns-clause-joined
returns-clause-joined g c = λ t e.
    let t1 = c.extend.ensures.goes_on.tells t in
    let t2 = c.put_counts.ensures.goes_on.tells t1 in
    let t3 = c.read.ensures.goes_on.tells t2 in
    let from : first_independent c.args.shape.now ≤ c.count-ci.result =
    omega (arith, c.first_independent.ensures.number, c.if-ci-first_independent.false) in
    let last = c.count-ci.ensures ∙ sym (g.met.I.Intervals.numbered c.args.i.now t) in
    joins-new _ _ _ _ _ _ _ _ _ _ _ _ _ _ e c.ends-ends.ensures from last (c.in_ok-extend.ensures.grown t)
    (g.met.I.Intervals.is_sized c.args.i.now)
    (c.in_ok-put_counts.ensures.put t1) (c.in_ok-interval.ensures.same t2) (c.in_ok-interval.ensures.bytes t2)
    (c.in_ok-at.ensures.joined t3)

pub returns-in_err-at-clause-goes_on : goal.returns-in_err-at-clause-goes_on
returns-in_err-at-clause-goes_on g c =
    goes_on_joined _ _ _ _ _ _ _ (goes_on_joined _ _ _ _ _ _ _
    (goes_on_joined _ _ _ _ _ _ _ c.extend.ensures.goes_on c.put_counts.ensures.goes_on) c.read.ensures.goes_on)
    c.join.ensures.goes_on

pub returns-clause-goes_on : goal.returns-clause-goes_on
returns-clause-goes_on g c =
    goes_on_joined _ _ _ _ _ _ _ (goes_on_joined _ _ _ _ _ _ _
    (goes_on_joined _ _ _ _ _ _ _ c.extend.ensures.goes_on c.put_counts.ensures.goes_on) c.read.ensures.goes_on)
    c.join.ensures.goes_on

pub returns-then-ci-first_independent-clause-damaged : goal.returns-then-ci-first_independent-clause-damaged
returns-then-ci-first_independent-clause-damaged g c = λ t e f n i.
    let last = c.count-ci.ensures ∙ sym (g.met.I.Intervals.numbered c.args.i.now t) in
    named_fault (IsAtFault c.args.shape.now (g.I.Intervals.intervals c.args.i.now)) 0 n i
    (count-fault _ _ _ _ c.count-ci.result e c.ends-ends.ensures last
    (elim c.then-ci-first_independent.branch [
      | then-ci-first_independent-via-then-ci-first_independent w ↦
          inl (omega (arith, w.if-ci-first_independent.true, c.first_independent.ensures.number))
      | then-ci-first_independent-via-else-ci-first_independent+then-ends-ci w ↦ inr (λ x.
          w.if-ends-ci.true (x ∙ ap (λ k. c.count-ci.result - k)
          (sym w.first_independent-else-ci-first_independent.ensures.number)))
    ]))

pub returns-in_err-interval-clause-damaged : goal.returns-in_err-interval-clause-damaged
returns-in_err-interval-clause-damaged g c = λ t e f n i.
    let p = err_from_is_err_and c.from_residual-in_err-interval.result c.from_residual-in_err-interval.ensures.1 in
    let t1 = c.extend.ensures.goes_on.tells t in
    let t2 = c.put_counts.ensures.goes_on.tells t1 in
    let from : first_independent c.args.shape.now ≤ c.count-ci.result =
    omega (arith, c.first_independent.ensures.number, c.if-ci-first_independent.false) in
    let last = c.count-ci.ensures ∙ sym (g.met.I.Intervals.numbered c.args.i.now t) in
    let grown = c.in_ok-extend.ensures.grown t in
    let put = (c.in_ok-put_counts.ensures.put t1).put in
    let is = put.others c.count-ci.result (λ z. omega (arith, from, z)) ∙ ap
    (bytes_at (g.I.Intervals.intervals c.extend.new.i)) last ∙ grown.last in
    absurd (new-there _ _ _ n is (g.met.I.Intervals.is_sized c.args.i.now)
    (omega (arith, put.same_number, grown.one_more, last))
    (c.in_err-interval.ensures.damaged t2 n (same_fault _ _ _ _ p.1 p.2 i)))

pub returns-in_err-at-clause-damaged : goal.returns-in_err-at-clause-damaged
returns-in_err-at-clause-damaged g c = λ t e f n i.
    let p = err_from_is_err_and c.from_residual-in_err-at.result c.from_residual-in_err-at.ensures.1 in
    let t1 = c.extend.ensures.goes_on.tells t in
    let t2 = c.put_counts.ensures.goes_on.tells t1 in
    let t3 = c.read.ensures.goes_on.tells t2 in
    let from : first_independent c.args.shape.now ≤ c.count-ci.result =
    omega (arith, c.first_independent.ensures.number, c.if-ci-first_independent.false) in
    let last = c.count-ci.ensures ∙ sym (g.met.I.Intervals.numbered c.args.i.now t) in
    let grown = c.in_ok-extend.ensures.grown t in
    let counts = c.in_ok-put_counts.ensures.put t1 in
    let sized = g.met.I.Intervals.is_sized c.args.i.now in
    let is = c.in_ok-interval.ensures.bytes t2 ∙ counts.put.others c.count-ci.result (λ z. omega (arith, from, z)) ∙ ap
    (bytes_at (g.I.Intervals.intervals c.extend.new.i)) last ∙ grown.last in
    let empty : IsEmpty c.in_ok-interval.interval = rw is (new-empty (g.I.Intervals.size c.args.i.now) sized) in
    let fits : FitsEmpty (length c.in_ok-interval.interval) c.args.needed =
    rw (c.in_ok-interval.ensures.size, c.put_counts.ensures.goes_on.same_size, c.extend.ensures.goes_on.same_size) f
    in
    let below : first_independent c.args.shape.now ≤ length (g.I.Intervals.intervals c.args.i.now) =
    omega (arith, from, last) in
    let damaged = rw (c.in_ok-interval.ensures.same t2) at
    (c.in_err-at.ensures.damaged t3 n (same_fault _ _ _ _ p.1 p.2 i)) in
    elim damaged as (λ _. IsAtFault c.args.shape.now (g.I.Intervals.intervals c.args.i.now) n) [
      | inl h ↦ base-grown _ _ _ _ _ _ _ _ _ _ c.requires.uow c.requires.base below grown counts h
      | inr h ↦ absurd (empty-fits _ _ empty fits h.1)
    ]

-- ---- what each exit says besides

pub returns-in_err-extend-clause-joined : goal.returns-in_err-extend-clause-joined
returns-in_err-extend-clause-joined g c = λ t e. IfOk-from_err c.from_residual.result _ c.from_residual.ensures.0

pub returns-in_err-extend-clause-in_range : goal.returns-in_err-extend-clause-in_range
returns-in_err-extend-clause-in_range g c = IfOk-from_err c.from_residual.result _ c.from_residual.ensures.0

pub returns-in_err-extend-clause-failed : goal.returns-in_err-extend-clause-failed
returns-in_err-extend-clause-failed g c = rose_then c.from_residual.result _ _ _ _ c.from_residual.ensures.1
    (omega arith)
    c.in_err-extend.ensures.failed

pub returns-in_err-extend-clause-damaged : goal.returns-in_err-extend-clause-damaged
returns-in_err-extend-clause-damaged g c = λ t e f n. damaged_then c.from_residual.result _ n
    c.from_residual.ensures.1 (λ e. absurd (c.in_err-extend.ensures.never_damaged n e))

pub returns-in_err-extend-clause-number : goal.returns-in_err-extend-clause-number
returns-in_err-extend-clause-number g c = c.extend.ensures.number

pub returns-in_err-put_counts-clause-joined : goal.returns-in_err-put_counts-clause-joined
returns-in_err-put_counts-clause-joined g c = λ t e. IfOk-from_err c.from_residual-in_err-put_counts.result _
    c.from_residual-in_err-put_counts.ensures.0

pub returns-in_err-put_counts-clause-in_range : goal.returns-in_err-put_counts-clause-in_range
returns-in_err-put_counts-clause-in_range g c = IfOk-from_err c.from_residual-in_err-put_counts.result _
    c.from_residual-in_err-put_counts.ensures.0

pub returns-in_err-put_counts-clause-failed : goal.returns-in_err-put_counts-clause-failed
returns-in_err-put_counts-clause-failed g c = failed_then c.from_residual-in_err-put_counts.result _
    c.from_residual-in_err-put_counts.ensures.1
    c.in_err-put_counts.ensures.never_failed

pub returns-in_err-put_counts-clause-damaged : goal.returns-in_err-put_counts-clause-damaged
returns-in_err-put_counts-clause-damaged g c = λ t e f n. damaged_then c.from_residual-in_err-put_counts.result _ n
    c.from_residual-in_err-put_counts.ensures.1 (λ e. absurd (c.in_err-put_counts.ensures.never_damaged n e))

pub returns-in_err-put_counts-clause-number : goal.returns-in_err-put_counts-clause-number
returns-in_err-put_counts-clause-number g c = omega (arith, c.extend.ensures.number, c.put_counts.ensures.number)

pub returns-in_err-put_counts-clause-goes_on : goal.returns-in_err-put_counts-clause-goes_on
returns-in_err-put_counts-clause-goes_on g c = goes_on_joined _ _ _ _ _ _ _ c.extend.ensures.goes_on
    c.put_counts.ensures.goes_on

pub returns-in_err-interval-clause-joined : goal.returns-in_err-interval-clause-joined
returns-in_err-interval-clause-joined g c = λ t e. IfOk-from_err c.from_residual-in_err-interval.result _
    c.from_residual-in_err-interval.ensures.0

pub returns-in_err-interval-clause-in_range : goal.returns-in_err-interval-clause-in_range
returns-in_err-interval-clause-in_range g c = IfOk-from_err c.from_residual-in_err-interval.result _
    c.from_residual-in_err-interval.ensures.0

pub returns-in_err-interval-clause-failed : goal.returns-in_err-interval-clause-failed
returns-in_err-interval-clause-failed g c = rose_then c.from_residual-in_err-interval.result _ _ _ _
    c.from_residual-in_err-interval.ensures.1
    (omega (arith, c.extend.ensures.goes_on.later, c.put_counts.ensures.goes_on.later))
    c.in_err-interval.ensures.failed

pub returns-in_err-interval-clause-number : goal.returns-in_err-interval-clause-number
returns-in_err-interval-clause-number g c = omega (
  arith,
  c.extend.ensures.number,
  c.put_counts.ensures.number,
  c.read.ensures.number,
)

pub returns-in_err-interval-clause-goes_on : goal.returns-in_err-interval-clause-goes_on
returns-in_err-interval-clause-goes_on g c = goes_on_joined _ _ _ _ _ _ _ (goes_on_joined _ _ _ _ _ _ _
    c.extend.ensures.goes_on c.put_counts.ensures.goes_on) c.read.ensures.goes_on

pub returns-in_err-at-clause-joined : goal.returns-in_err-at-clause-joined
returns-in_err-at-clause-joined g c = λ t e. IfOk-from_err c.from_residual-in_err-at.result _
    c.from_residual-in_err-at.ensures.0

pub returns-in_err-at-clause-in_range : goal.returns-in_err-at-clause-in_range
returns-in_err-at-clause-in_range g c = IfOk-from_err c.from_residual-in_err-at.result _
    c.from_residual-in_err-at.ensures.0

pub returns-in_err-at-clause-failed : goal.returns-in_err-at-clause-failed
returns-in_err-at-clause-failed g c = rose_then c.from_residual-in_err-at.result _ _ _ _
    c.from_residual-in_err-at.ensures.1
    (omega (arith, c.extend.ensures.goes_on.later, c.put_counts.ensures.goes_on.later, c.read.ensures.goes_on.later))
    c.in_err-at.ensures.failed

pub returns-in_err-at-clause-number : goal.returns-in_err-at-clause-number
returns-in_err-at-clause-number g c = omega (
  arith,
  c.extend.ensures.number,
  c.put_counts.ensures.number,
  c.read.ensures.number,
  c.join.ensures.number,
)

pub returns-clause-number : goal.returns-clause-number
returns-clause-number g c = omega (
  arith,
  c.extend.ensures.number,
  c.put_counts.ensures.number,
  c.read.ensures.number,
  c.join.ensures.number,
)
