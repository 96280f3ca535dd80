use Rattle.std.proofs.Common.{◌≡◌, ◌∙◌, ap, arith}
use Rattle.std.proofs.lemmas.Result.{IfOk-from_err}
use Rattle.fp_lists.proofs.FaultLemmas.{rose_behind}
use Rattle.ci_space.proofs.GoingLemmas.{goes_on_joined}
use Rattle.ci_overflow.specs.Lists.{link_of}
use Rattle.ci_overflow.proofs.Going.{damaged_then, rose_then}
use Rattle.ci_overflow.proofs.Joins.{link_is_number}
use Rattle.ci_overflow.proofs.Tries.{option_some}
use Rattle.ci_overflow.proofs.Befores.{leads-to}
use Rattle.ci_overflow.proofs.before.find_seen.Goals as goal

pub returns-then-head-ci-clause-found : goal.returns-then-head-ci-clause-found
returns-then-head-ci-clause-found g c = λ t.
    let before = c.in-Some.before in
    let link : c.head.result.link ≡ link_of before.interval =
    link_is_number before.interval c.head.result.link (ap (λ h. h.link) c.head.ensures.head) in
    let s = option_some _ _ _ c.in-Some.is (c.in_ok-before.ensures.in_list t) in
    let a = option_some _ _ _ c.in-Some.is c.in_ok-before.ensures.apart in
    leads-to _ _ _ _ _ before s link c.if-head-ci.true a

pub returns-in-Some-2-clause-damaged : goal.returns-in-Some-2-clause-damaged
returns-in-Some-2-clause-damaged g c = λ t u n e.
    let t1 = c.one_of_list.ensures.goes_on.tells t in
    let t2 = c.one_of_list-2.ensures.goes_on.tells t1 in
    let same1 = c.one_of_list.ensures.same t in
    let same2 = c.one_of_list-2.ensures.same t1 in
    let s = option_some _ _ _ c.in-Some-2.is (c.in_ok-start.ensures.in_list t1) in
    rw (same2, same1) at (c.walk.ensures.damaged t2 (rw same2 s) u n e)

-- ---- what each exit says besides

pub returns-in_err-before-clause-found : goal.returns-in_err-before-clause-found
returns-in_err-before-clause-found g c = λ t. IfOk-from_err c.from_residual.result _ c.from_residual.ensures.0

pub returns-in_err-before-clause-below : goal.returns-in_err-before-clause-below
returns-in_err-before-clause-below g c = IfOk-from_err c.from_residual.result _ c.from_residual.ensures.0

pub returns-in_err-before-clause-interval : goal.returns-in_err-before-clause-interval
returns-in_err-before-clause-interval g c = IfOk-from_err c.from_residual.result _ c.from_residual.ensures.0

pub returns-in_err-before-clause-kind : goal.returns-in_err-before-clause-kind
returns-in_err-before-clause-kind g c = IfOk-from_err c.from_residual.result _ c.from_residual.ensures.0

pub returns-in_err-before-clause-size : goal.returns-in_err-before-clause-size
returns-in_err-before-clause-size g c = IfOk-from_err c.from_residual.result _ c.from_residual.ensures.0

pub returns-in_err-before-clause-damaged : goal.returns-in_err-before-clause-damaged
returns-in_err-before-clause-damaged g c = λ t u n. damaged_then c.from_residual.result _ n c.from_residual.ensures.1
    (λ e. absurd (c.in_err-before.ensures.never_damaged n e))

pub returns-in_err-before-clause-failed : goal.returns-in_err-before-clause-failed
returns-in_err-before-clause-failed g c = rose_then c.from_residual.result _ _ _ _ c.from_residual.ensures.1
    (omega arith) c.in_err-before.ensures.failed

pub returns-in_err-start-clause-found : goal.returns-in_err-start-clause-found
returns-in_err-start-clause-found g c = λ t. IfOk-from_err c.from_residual-in_err-start.result _
    c.from_residual-in_err-start.ensures.0

pub returns-in_err-start-clause-below : goal.returns-in_err-start-clause-below
returns-in_err-start-clause-below g c = IfOk-from_err c.from_residual-in_err-start.result _
    c.from_residual-in_err-start.ensures.0

pub returns-in_err-start-clause-interval : goal.returns-in_err-start-clause-interval
returns-in_err-start-clause-interval g c = IfOk-from_err c.from_residual-in_err-start.result _
    c.from_residual-in_err-start.ensures.0

pub returns-in_err-start-clause-kind : goal.returns-in_err-start-clause-kind
returns-in_err-start-clause-kind g c = IfOk-from_err c.from_residual-in_err-start.result _
    c.from_residual-in_err-start.ensures.0

pub returns-in_err-start-clause-size : goal.returns-in_err-start-clause-size
returns-in_err-start-clause-size g c = IfOk-from_err c.from_residual-in_err-start.result _
    c.from_residual-in_err-start.ensures.0

pub returns-in_err-start-clause-damaged : goal.returns-in_err-start-clause-damaged
returns-in_err-start-clause-damaged g c = λ t u n. damaged_then c.from_residual-in_err-start.result _ n
    c.from_residual-in_err-start.ensures.1
    (λ e. absurd (c.in_err-start.ensures.never_damaged n e))

pub returns-in_err-start-clause-failed : goal.returns-in_err-start-clause-failed
returns-in_err-start-clause-failed g c = rose_then c.from_residual-in_err-start.result _ _ _ _
    c.from_residual-in_err-start.ensures.1
    c.one_of_list.ensures.goes_on.later c.in_err-start.ensures.failed

pub returns-in_err-start-clause-same : goal.returns-in_err-start-clause-same
returns-in_err-start-clause-same g c = λ t.
    c.one_of_list-2.ensures.same (c.one_of_list.ensures.goes_on.tells t)
    ∙ c.one_of_list.ensures.same t

pub returns-in_err-start-clause-number : goal.returns-in_err-start-clause-number
returns-in_err-start-clause-number g c = c.one_of_list-2.ensures.number ∙ c.one_of_list.ensures.number

pub returns-in_err-start-clause-goes_on : goal.returns-in_err-start-clause-goes_on
returns-in_err-start-clause-goes_on g c = goes_on_joined _ _ _ _ _ _ _ c.one_of_list.ensures.goes_on
    c.one_of_list-2.ensures.goes_on

pub returns-in-Some-2-clause-failed : goal.returns-in-Some-2-clause-failed
returns-in-Some-2-clause-failed g c = λ e. rose_behind _ _ _ (omega (
  arith,
  c.one_of_list.ensures.goes_on.later,
  c.one_of_list-2.ensures.goes_on.later,
))
    (c.walk.ensures.failed e)

pub returns-in-Some-2-clause-same : goal.returns-in-Some-2-clause-same
returns-in-Some-2-clause-same g c = λ t.
    c.walk.ensures.same (c.one_of_list-2.ensures.goes_on.tells (c.one_of_list.ensures.goes_on.tells t))
    ∙ c.one_of_list-2.ensures.same (c.one_of_list.ensures.goes_on.tells t)
    ∙ c.one_of_list.ensures.same t

pub returns-in-Some-2-clause-number : goal.returns-in-Some-2-clause-number
returns-in-Some-2-clause-number g c = c.walk.ensures.number ∙ c.one_of_list-2.ensures.number ∙
    c.one_of_list.ensures.number

pub returns-in-Some-2-clause-goes_on : goal.returns-in-Some-2-clause-goes_on
returns-in-Some-2-clause-goes_on g c = goes_on_joined _ _ _ _ _ _ _ (goes_on_joined _ _ _ _ _ _ _
    c.one_of_list.ensures.goes_on c.one_of_list-2.ensures.goes_on) c.walk.ensures.goes_on
