use Rattle.std.proofs.Common.{◌≡◌, ◌∙◌, ◌+◌, inr, sym, ap, arith}
use Rattle.std.proofs.lemmas.Result.{IfOk-from_err}
use Rattle.ci_space.specs.Interval.{IsFull}
use Rattle.ci_overflow.proofs.Going.{damaged_then, failed_then, rose_then}
use Rattle.ci_overflow.proofs.Joins.{joins}
use Rattle.ci_overflow.proofs.JoinFaults.{full-behind}
use Rattle.ci_overflow.proofs.joined.join.Goals as goal
use Rattle.ci_space.proofs.GoingLemmas.{goes_on_joined}

pub returns-in_ok-write-in-Some-2-clause-joined : goal.returns-in_ok-write-in-Some-2-clause-joined
returns-in_ok-write-in-Some-2-clause-joined g c = λ t.
    let t1 = c.read.ensures.goes_on.tells t in
    let t2 = c.write.ensures.goes_on.tells t1 in
    joins _ _ _ _ _ _ _ _ _ _ _ _ _ _ _ _ c.head-head.result c.first_base-first.ensures.number c.requires.behind
    (c.in_ok-base.ensures.same t) (c.in_ok-base.ensures.bytes t) c.in_ok-base.ensures.interval c.requires.interval
    c.head-head.ensures.head c.set_head.ensures.head c.set_head.ensures.tiles c.set_head.ensures.others
    c.set_head-2.ensures.head (ap (λ n. n + 1) c.from.ensures) c.set_head-2.ensures.tiles
    c.in-Some.ensures.some c.in-Some.ensures.room c.in-Some.ensures.fresh c.in-Some.ensures.others c.take.ensures.head
    (c.in_ok-write-in-Some.ensures.put t1) (c.in_ok-write-in-Some-2.ensures.put t2)

pub returns-in-None-clause-damaged : goal.returns-in-None-clause-damaged
returns-in-None-clause-damaged g c = λ t n e.
    let full : IsFull c.args.interval c.args.needed =
    full-behind _ _ _ c.requires.interval c.set_head-2.ensures.tiles c.in-None.ensures.full in
    let k : c.args.ci ≡ n = cc in
    inr (sym k, full)

pub returns-in_ok-write-in-Some-2-clause-goes_on : goal.returns-in_ok-write-in-Some-2-clause-goes_on
returns-in_ok-write-in-Some-2-clause-goes_on g c =
    goes_on_joined _ _ _ _ _ _ _ (goes_on_joined _ _ _ _ _ _ _ c.read.ensures.goes_on c.write.ensures.goes_on)
    c.write-in-Some.ensures.goes_on

-- ---- what each exit says besides

pub returns-in_err-base-clause-joined : goal.returns-in_err-base-clause-joined
returns-in_err-base-clause-joined g c = λ t. IfOk-from_err c.from_residual.result _ c.from_residual.ensures.0

pub returns-in_err-base-clause-failed : goal.returns-in_err-base-clause-failed
returns-in_err-base-clause-failed g c = rose_then c.from_residual.result _ _ _ _ c.from_residual.ensures.1 (omega arith)
    c.in_err-base.ensures.failed

pub returns-in_err-write-in-Some-clause-joined : goal.returns-in_err-write-in-Some-clause-joined
returns-in_err-write-in-Some-clause-joined g c = λ t. IfOk-from_err c.from_residual-in_err-write-in-Some.result _
    c.from_residual-in_err-write-in-Some.ensures.0

pub returns-in_err-write-in-Some-clause-failed : goal.returns-in_err-write-in-Some-clause-failed
returns-in_err-write-in-Some-clause-failed g c = failed_then c.from_residual-in_err-write-in-Some.result _
    c.from_residual-in_err-write-in-Some.ensures.1
    c.in_err-write-in-Some.ensures.never_failed

pub returns-in_err-write-in-Some-clause-damaged : goal.returns-in_err-write-in-Some-clause-damaged
returns-in_err-write-in-Some-clause-damaged g c = λ t n. damaged_then c.from_residual-in_err-write-in-Some.result _ n
    c.from_residual-in_err-write-in-Some.ensures.1 (λ e. absurd (c.in_err-write-in-Some.ensures.never_damaged n e))

pub returns-in_err-write-in-Some-clause-number : goal.returns-in_err-write-in-Some-clause-number
returns-in_err-write-in-Some-clause-number g c = c.write.ensures.number ∙ c.read.ensures.number

pub returns-in_err-write-in-Some-clause-goes_on : goal.returns-in_err-write-in-Some-clause-goes_on
returns-in_err-write-in-Some-clause-goes_on g c = goes_on_joined _ _ _ _ _ _ _ c.read.ensures.goes_on
    c.write.ensures.goes_on

pub returns-in_err-write-in-Some-2-clause-joined : goal.returns-in_err-write-in-Some-2-clause-joined
returns-in_err-write-in-Some-2-clause-joined g c = λ t. IfOk-from_err c.from_residual-in_err-write-in-Some-2.result _
    c.from_residual-in_err-write-in-Some-2.ensures.0

pub returns-in_err-write-in-Some-2-clause-failed : goal.returns-in_err-write-in-Some-2-clause-failed
returns-in_err-write-in-Some-2-clause-failed g c = failed_then c.from_residual-in_err-write-in-Some-2.result _
    c.from_residual-in_err-write-in-Some-2.ensures.1
    c.in_err-write-in-Some-2.ensures.never_failed

pub returns-in_err-write-in-Some-2-clause-damaged : goal.returns-in_err-write-in-Some-2-clause-damaged
returns-in_err-write-in-Some-2-clause-damaged g c = λ t n. damaged_then c.from_residual-in_err-write-in-Some-2.result _
    n
    c.from_residual-in_err-write-in-Some-2.ensures.1 (λ e. absurd (c.in_err-write-in-Some-2.ensures.never_damaged n e))

pub returns-in_err-write-in-Some-2-clause-number : goal.returns-in_err-write-in-Some-2-clause-number
returns-in_err-write-in-Some-2-clause-number g c = c.write-in-Some.ensures.number ∙ c.write.ensures.number ∙
    c.read.ensures.number

pub returns-in_err-write-in-Some-2-clause-goes_on : goal.returns-in_err-write-in-Some-2-clause-goes_on
returns-in_err-write-in-Some-2-clause-goes_on g c = goes_on_joined _ _ _ _ _ _ _ (goes_on_joined _ _ _ _ _ _ _
    c.read.ensures.goes_on c.write.ensures.goes_on) c.write-in-Some.ensures.goes_on

pub returns-in_ok-write-in-Some-2-clause-number : goal.returns-in_ok-write-in-Some-2-clause-number
returns-in_ok-write-in-Some-2-clause-number g c = c.write-in-Some.ensures.number ∙ c.write.ensures.number ∙
    c.read.ensures.number
