use Rattle.std.proofs.Common.{◌≡◌, ◌+◌, ◌<◌, length, sym, ap, ◌∙◌, arith}
use Rattle.std.proofs.lemmas.Result.{IfOk-from_err, err_from_is_err_and}
use Rattle.ci_overflow.specs.Lists.{bytes_at, owner_of}
use Rattle.ci_overflow.proofs.Going.{failed_then, rose_then}
use Rattle.ci_overflow.proofs.Tries.{keeps-owner}
use Rattle.ci_overflow.proofs.Joins.{base-before}
use Rattle.ci_overflow.proofs.Moving.{moves}
use Rattle.ci_overflow.proofs.FaultLemmas.{unit-fault, control-fault}
use Rattle.ci_overflow.proofs.freed.move_to_free.Goals as goal
use Rattle.ci_space.proofs.GoingLemmas.{goes_on_joined}
use Rattle.plain_laws.proofs.Results.{on_ok_map, same_fault}

pub returns-in_err-uow-clause-damaged : goal.returns-in_err-uow-clause-damaged
returns-in_err-uow-clause-damaged g c = λ t k m n e.
    let p = err_from_is_err_and c.from_residual.result c.from_residual.ensures.1 in
    let h = c.in_err-uow.ensures.damaged n (same_fault _ _ _ _ p.1 p.2 e) in
    let below : c.args.ci < length (g.I.Intervals.intervals c.args.i.now) =
    omega (arith, g.met.I.Intervals.numbered c.args.i.now t, c.requires.in_range) in
    rw h.0 (unit-fault c.args.shape.now _ c.args.ci _ k below c.requires.kind m h.1)

pub find_before-requires : goal.find_before-requires
find_before-requires g c =
    let before = base-before c.args.shape.now c.in_ok-uow.uow c.in_ok-uow.ensures.bound c.in_ok-uow.ensures.has_base in
    record { independent = c.in_ok-uow.ensures.from; behind = omega (arith, before, c.in_ok-uow.ensures.from) }

pub returns-in_err-before-clause-damaged : goal.returns-in_err-before-clause-damaged
returns-in_err-before-clause-damaged g c = λ t k m n e.
    let p = err_from_is_err_and c.from_residual-in_err-before.result c.from_residual-in_err-before.ensures.1 in
    let owner : owner_of (bytes_at (g.I.Intervals.intervals c.args.i.now) c.args.ci) ≡ c.in_ok-uow.uow + 1 =
    sym (keeps-owner _ _ k) ∙ c.in_ok-uow.ensures.unit in
    c.in_err-before.ensures.damaged t c.in_ok-uow.ensures.has_base c.in_ok-uow.ensures.bound owner c.requires.in_range n
    (same_fault _ _ _ _ p.1 p.2 e)

pub returns-in_err-control-clause-damaged : goal.returns-in_err-control-clause-damaged
returns-in_err-control-clause-damaged g c = λ t k m n e.
    let p = err_from_is_err_and c.from_residual-in_err-control.result c.from_residual-in_err-control.ensures.1 in
    let t1 = c.find_before.ensures.goes_on.tells t in
    let h = rw (c.in_ok-before.ensures.same t) at (c.in_err-control.ensures.damaged t1 n (same_fault _ _ _ _ p.1 p.2 e))
    in
    control-fault c.args.shape.now _ n h

pub returns-in_err-put_link-clause-damaged : goal.returns-in_err-put_link-clause-damaged
returns-in_err-put_link-clause-damaged g c = λ t k m n e.
    let p = err_from_is_err_and c.from_residual-in_err-put_link.result c.from_residual-in_err-put_link.ensures.1 in
    absurd (c.in_err-put_link.ensures.never_damaged n (same_fault _ _ _ _ p.1 p.2 e))

pub returns-clause-damaged : goal.returns-clause-damaged
returns-clause-damaged g c = λ t k m n e. absurd (c.put_free.ensures.never_damaged n e)

pub returns-clause-moved : goal.returns-clause-moved
returns-clause-moved g c = λ t k.
    let t1 = c.find_before.ensures.goes_on.tells t in
    let t2 = c.read.ensures.goes_on.tells t1 in
    let t3 = c.put_link.ensures.goes_on.tells t2 in
    on_ok_map _ _ _ (λ q. moves _ _ _ _ _ _ _ _ _ _ _ c.in_ok-before.before c.in_ok-uow.ensures.bound
    c.in_ok-uow.ensures.has_base c.in_ok-uow.ensures.from c.in_ok-uow.ensures.unit
    (c.in_ok-before.ensures.before t)
    (c.in_ok-before.ensures.same t) (c.in_ok-control.ensures.bytes t1) (c.in_ok-control.ensures.same t1)
    (ap (λ h. h.link) c.head-link.ensures.head) (c.in_ok-put_link.ensures.put t2) q) (c.put_free.ensures.put t3)

pub returns-in_err-forget-clause-damaged : goal.returns-in_err-forget-clause-damaged
returns-in_err-forget-clause-damaged g c = λ t k m n e.
    let p = err_from_is_err_and c.from_residual-in_err-forget.result c.from_residual-in_err-forget.ensures.1 in
    absurd (c.in_err-forget.ensures.never_damaged n (same_fault _ _ _ _ p.1 p.2 e))

pub returns-in_err-put_link-clause-goes_on : goal.returns-in_err-put_link-clause-goes_on
returns-in_err-put_link-clause-goes_on g c = goes_on_joined _ _ _ _ _ _ _
    (goes_on_joined _ _ _ _ _ _ _ c.find_before.ensures.goes_on c.read.ensures.goes_on) c.put_link.ensures.goes_on

pub returns-clause-goes_on : goal.returns-clause-goes_on
returns-clause-goes_on g c = goes_on_joined _ _ _ _ _ _ _
    (goes_on_joined _ _ _ _ _ _ _
    (goes_on_joined _ _ _ _ _ _ _ c.find_before.ensures.goes_on c.read.ensures.goes_on) c.put_link.ensures.goes_on)
    c.put_free.ensures.goes_on

-- ---- what each exit says besides

pub returns-in_err-uow-clause-moved : goal.returns-in_err-uow-clause-moved
returns-in_err-uow-clause-moved g c = λ t k. IfOk-from_err c.from_residual.result _ c.from_residual.ensures.0

pub returns-in_err-uow-clause-failed : goal.returns-in_err-uow-clause-failed
returns-in_err-uow-clause-failed g c = failed_then c.from_residual.result _ c.from_residual.ensures.1
    c.in_err-uow.ensures.never_failed

pub returns-in_err-before-clause-moved : goal.returns-in_err-before-clause-moved
returns-in_err-before-clause-moved g c = λ t k. IfOk-from_err c.from_residual-in_err-before.result _
    c.from_residual-in_err-before.ensures.0

pub returns-in_err-before-clause-failed : goal.returns-in_err-before-clause-failed
returns-in_err-before-clause-failed g c = rose_then c.from_residual-in_err-before.result _ _ _ _
    c.from_residual-in_err-before.ensures.1
    (omega arith) c.in_err-before.ensures.failed

pub returns-in_err-control-clause-moved : goal.returns-in_err-control-clause-moved
returns-in_err-control-clause-moved g c = λ t k. IfOk-from_err c.from_residual-in_err-control.result _
    c.from_residual-in_err-control.ensures.0

pub returns-in_err-control-clause-failed : goal.returns-in_err-control-clause-failed
returns-in_err-control-clause-failed g c = rose_then c.from_residual-in_err-control.result _ _ _ _
    c.from_residual-in_err-control.ensures.1
    c.find_before.ensures.goes_on.later c.in_err-control.ensures.failed

pub returns-in_err-control-clause-number : goal.returns-in_err-control-clause-number
returns-in_err-control-clause-number g c = c.read.ensures.number ∙ c.find_before.ensures.number

pub returns-in_err-control-clause-goes_on : goal.returns-in_err-control-clause-goes_on
returns-in_err-control-clause-goes_on g c = goes_on_joined _ _ _ _ _ _ _ c.find_before.ensures.goes_on
    c.read.ensures.goes_on

pub returns-in_err-forget-clause-moved : goal.returns-in_err-forget-clause-moved
returns-in_err-forget-clause-moved g c = λ t k. IfOk-from_err c.from_residual-in_err-forget.result _
    c.from_residual-in_err-forget.ensures.0

pub returns-in_err-forget-clause-failed : goal.returns-in_err-forget-clause-failed
returns-in_err-forget-clause-failed g c = failed_then c.from_residual-in_err-forget.result _
    c.from_residual-in_err-forget.ensures.1
    c.in_err-forget.ensures.never_failed

pub returns-in_err-forget-clause-number : goal.returns-in_err-forget-clause-number
returns-in_err-forget-clause-number g c = c.read.ensures.number ∙ c.find_before.ensures.number

pub returns-in_err-forget-clause-goes_on : goal.returns-in_err-forget-clause-goes_on
returns-in_err-forget-clause-goes_on g c = goes_on_joined _ _ _ _ _ _ _ c.find_before.ensures.goes_on
    c.read.ensures.goes_on

pub returns-in_err-put_link-clause-moved : goal.returns-in_err-put_link-clause-moved
returns-in_err-put_link-clause-moved g c = λ t k. IfOk-from_err c.from_residual-in_err-put_link.result _
    c.from_residual-in_err-put_link.ensures.0

pub returns-in_err-put_link-clause-failed : goal.returns-in_err-put_link-clause-failed
returns-in_err-put_link-clause-failed g c = failed_then c.from_residual-in_err-put_link.result _
    c.from_residual-in_err-put_link.ensures.1
    c.in_err-put_link.ensures.never_failed

pub returns-in_err-put_link-clause-number : goal.returns-in_err-put_link-clause-number
returns-in_err-put_link-clause-number g c = c.put_link.ensures.number ∙ c.read.ensures.number ∙
    c.find_before.ensures.number

pub returns-clause-failed : goal.returns-clause-failed
returns-clause-failed g c = λ e. absurd (c.put_free.ensures.never_failed e)

pub returns-clause-number : goal.returns-clause-number
returns-clause-number g c = c.put_free.ensures.number ∙ c.put_link.ensures.number ∙ c.read.ensures.number ∙
    c.find_before.ensures.number
