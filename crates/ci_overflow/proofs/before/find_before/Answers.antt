use Rattle.std.proofs.Common.{◌≡◌, ◌≢◌, ◌<◌, inl, length, sym, ap, ◌∙◌, arith}
use Rattle.std.proofs.lemmas.Result.{IfOk-from_err, err_from_is_err_and}
use Rattle.ci_space.specs.Interval.{kind_of}
use Rattle.ci_overflow.specs.Places.{first_base}
use Rattle.ci_overflow.specs.Lists.{bytes_at, link_of}
use Rattle.ci_overflow.specs.Faults.{IsAtFault}
use Rattle.ci_overflow.specs.Moves.{IsInList}
use Rattle.ci_overflow.proofs.Going.{named_fault, rose_then}
use Rattle.ci_overflow.proofs.Joins.{link_is_number}
use Rattle.ci_overflow.proofs.Tries.{option_some, option_none}
use Rattle.ci_overflow.proofs.Befores.{leads-to, is-before, unlisted-fault}
use Rattle.ci_overflow.proofs.before.find_before.Goals as goal
use Rattle.ci_space.proofs.GoingLemmas.{goes_on_joined}
use Rattle.plain_laws.proofs.Results.{same_fault}

pub returns-in_err-base-clause-damaged : goal.returns-in_err-base-clause-damaged
returns-in_err-base-clause-damaged g c = λ t b u w l n e.
    let p = err_from_is_err_and c.from_residual.result c.from_residual.ensures.1 in
    c.in_err-base.ensures.damaged t b u n (same_fault _ _ _ _ p.1 p.2 e)

pub returns-then-head-ci-clause-before : goal.returns-then-head-ci-clause-before
returns-then-head-ci-clause-before g c = λ t.
    let area = g.I.Intervals.intervals c.args.i.now in
    let base = c.in_ok-base.base in
    let first = c.in_ok-base.ensures.first in
    let bytes = c.in_ok-base.ensures.bytes t in
    let below : first_base c.args.shape.now c.args.uow < length area =
    omega (arith, g.met.I.Intervals.numbered c.args.i.now t, c.in_ok-base.ensures.below, first) in
    let kind : kind_of (bytes_at area (first_base c.args.shape.now c.args.uow)) ≡ 2 =
    sym (ap kind_of bytes) ∙ c.in_ok-base.ensures.kind in
    let s : IsInList c.args.shape.now area c.args.uow base = record {
      is_bytes = bytes ∙ ap (bytes_at area) (sym first);
      stands = inl first;
    } in
    let link : c.head.result.link ≡ link_of base.interval =
    link_is_number base.interval c.head.result.link (ap (λ h. h.link) c.head.ensures.head) in
    let apart : base.ci ≢ c.args.ci = λ e. omega (arith, first, c.requires.behind, e) in
    is-before _ _ _ _ base (leads-to _ _ _ _ _ base s link c.if-head-ci.true apart) below kind

pub returns-in_err-before-clause-damaged : goal.returns-in_err-before-clause-damaged
returns-in_err-before-clause-damaged g c = λ t b u w l n e.
    let p = err_from_is_err_and c.from_residual-in_err-before.result c.from_residual-in_err-before.ensures.1 in
    rw (c.first_of.ensures.same t) at (c.in_err-before.ensures.damaged (c.first_of.ensures.goes_on.tells t) u n
    (same_fault _ _ _ _ p.1 p.2 e))

pub returns-in-Some-clause-before : goal.returns-in-Some-clause-before
returns-in-Some-clause-before g c = λ t.
    let area = g.I.Intervals.intervals c.args.i.now in
    let first = c.in_ok-base.ensures.first in
    let below : first_base c.args.shape.now c.args.uow < length area =
    omega (arith, g.met.I.Intervals.numbered c.args.i.now t, c.in_ok-base.ensures.below, first) in
    let kind : kind_of (bytes_at area (first_base c.args.shape.now c.args.uow)) ≡ 2 =
    sym (ap kind_of (c.in_ok-base.ensures.bytes t)) ∙ c.in_ok-base.ensures.kind in
    let found = option_some _ _ _ c.in-Some.is
    (c.in_ok-before.ensures.found (c.first_of.ensures.goes_on.tells t)) in
    is-before _ _ _ _ c.in-Some.before (rw (c.first_of.ensures.same t) at found) below kind

pub returns-in_err-before-2-clause-damaged : goal.returns-in_err-before-2-clause-damaged
returns-in_err-before-2-clause-damaged g c = λ t b u w l n e.
    let p = err_from_is_err_and c.from_residual-in_err-before-2.result c.from_residual-in_err-before-2.ensures.1 in
    let area = g.I.Intervals.intervals c.args.i.now in
    let base = c.in_ok-base.base in
    let first = c.in_ok-base.ensures.first in
    let s : IsInList c.args.shape.now area c.args.uow base = record {
      is_bytes = c.in_ok-base.ensures.bytes t ∙ ap (bytes_at area) (sym first);
      stands = inl first;
    } in
    let t1 = c.first_of.ensures.goes_on.tells t in
    let t2 = c.find_seen.ensures.goes_on.tells t1 in
    let same = c.find_seen.ensures.same t1 ∙ c.first_of.ensures.same t in
    rw same at (c.in_err-before-2.ensures.damaged t2 (rw same s) u n (same_fault _ _ _ _ p.1 p.2 e))

pub returns-in-Some-2-clause-before : goal.returns-in-Some-2-clause-before
returns-in-Some-2-clause-before g c = λ t.
    let area = g.I.Intervals.intervals c.args.i.now in
    let base = c.in_ok-base.base in
    let first = c.in_ok-base.ensures.first in
    let bytes = c.in_ok-base.ensures.bytes t in
    let below : first_base c.args.shape.now c.args.uow < length area =
    omega (arith, g.met.I.Intervals.numbered c.args.i.now t, c.in_ok-base.ensures.below, first) in
    let kind : kind_of (bytes_at area (first_base c.args.shape.now c.args.uow)) ≡ 2 =
    sym (ap kind_of bytes) ∙ c.in_ok-base.ensures.kind in
    let s : IsInList c.args.shape.now area c.args.uow base = record {
      is_bytes = bytes ∙ ap (bytes_at area) (sym first);
      stands = inl first;
    } in
    let t1 = c.first_of.ensures.goes_on.tells t in
    let t2 = c.find_seen.ensures.goes_on.tells t1 in
    let same = c.find_seen.ensures.same t1 ∙ c.first_of.ensures.same t in
    let found = option_some _ _ _ c.in-Some-2.is (c.in_ok-before-2.ensures.found t2 (rw same s)) in
    is-before _ _ _ _ c.in-Some-2.before (rw same at found) below kind

pub returns-in-None-clause-damaged : goal.returns-in-None-clause-damaged
returns-in-None-clause-damaged g c = λ t b u w l n e.
    let area = g.I.Intervals.intervals c.args.i.now in
    let base = c.in_ok-base.base in
    let first = c.in_ok-base.ensures.first in
    let s : IsInList c.args.shape.now area c.args.uow base = record {
      is_bytes = c.in_ok-base.ensures.bytes t ∙ ap (bytes_at area) (sym first);
      stands = inl first;
    } in
    let t1 = c.first_of.ensures.goes_on.tells t in
    let t2 = c.find_seen.ensures.goes_on.tells t1 in
    let same = c.find_seen.ensures.same t1 ∙ c.first_of.ensures.same t in
    let ends = rw same at (option_none _ _ c.in-None.is (c.in_ok-before-2.ensures.ends t2 (rw same s))) in
    let below : c.args.ci < length area = omega (arith, g.met.I.Intervals.numbered c.args.i.now t, l) in
    named_fault (IsAtFault c.args.shape.now area) c.args.ci n e
    (unlisted-fault _ _ c.args.uow c.args.ci _ first ends u
    (record { from = c.requires.independent; below = below; owned = w }))

-- ---- what each exit says besides

pub returns-in_err-base-clause-before : goal.returns-in_err-base-clause-before
returns-in_err-base-clause-before g c = λ t. IfOk-from_err c.from_residual.result _ c.from_residual.ensures.0

pub returns-in_err-base-clause-below : goal.returns-in_err-base-clause-below
returns-in_err-base-clause-below g c = IfOk-from_err c.from_residual.result _ c.from_residual.ensures.0

pub returns-in_err-base-clause-interval : goal.returns-in_err-base-clause-interval
returns-in_err-base-clause-interval g c = IfOk-from_err c.from_residual.result _ c.from_residual.ensures.0

pub returns-in_err-base-clause-kind : goal.returns-in_err-base-clause-kind
returns-in_err-base-clause-kind g c = IfOk-from_err c.from_residual.result _ c.from_residual.ensures.0

pub returns-in_err-base-clause-size : goal.returns-in_err-base-clause-size
returns-in_err-base-clause-size g c = IfOk-from_err c.from_residual.result _ c.from_residual.ensures.0

pub returns-in_err-base-clause-failed : goal.returns-in_err-base-clause-failed
returns-in_err-base-clause-failed g c = rose_then c.from_residual.result _ _ _ _ c.from_residual.ensures.1 (omega arith)
    c.in_err-base.ensures.failed

pub returns-in_err-before-clause-before : goal.returns-in_err-before-clause-before
returns-in_err-before-clause-before g c = λ t. IfOk-from_err c.from_residual-in_err-before.result _
    c.from_residual-in_err-before.ensures.0

pub returns-in_err-before-clause-below : goal.returns-in_err-before-clause-below
returns-in_err-before-clause-below g c = IfOk-from_err c.from_residual-in_err-before.result _
    c.from_residual-in_err-before.ensures.0

pub returns-in_err-before-clause-interval : goal.returns-in_err-before-clause-interval
returns-in_err-before-clause-interval g c = IfOk-from_err c.from_residual-in_err-before.result _
    c.from_residual-in_err-before.ensures.0

pub returns-in_err-before-clause-kind : goal.returns-in_err-before-clause-kind
returns-in_err-before-clause-kind g c = IfOk-from_err c.from_residual-in_err-before.result _
    c.from_residual-in_err-before.ensures.0

pub returns-in_err-before-clause-size : goal.returns-in_err-before-clause-size
returns-in_err-before-clause-size g c = IfOk-from_err c.from_residual-in_err-before.result _
    c.from_residual-in_err-before.ensures.0

pub returns-in_err-before-clause-failed : goal.returns-in_err-before-clause-failed
returns-in_err-before-clause-failed g c = rose_then c.from_residual-in_err-before.result _ _ _ _
    c.from_residual-in_err-before.ensures.1 c.first_of.ensures.goes_on.later
    c.in_err-before.ensures.failed

pub returns-in_err-before-clause-same : goal.returns-in_err-before-clause-same
returns-in_err-before-clause-same g c = λ t.
    c.find_seen.ensures.same (c.first_of.ensures.goes_on.tells t)
    ∙ c.first_of.ensures.same t

pub returns-in_err-before-clause-number : goal.returns-in_err-before-clause-number
returns-in_err-before-clause-number g c = c.find_seen.ensures.number ∙ c.first_of.ensures.number

pub returns-in_err-before-clause-goes_on : goal.returns-in_err-before-clause-goes_on
returns-in_err-before-clause-goes_on g c = goes_on_joined _ _ _ _ _ _ _ c.first_of.ensures.goes_on
    c.find_seen.ensures.goes_on

pub returns-in-Some-clause-same : goal.returns-in-Some-clause-same
returns-in-Some-clause-same g c = λ t.
    c.find_seen.ensures.same (c.first_of.ensures.goes_on.tells t)
    ∙ c.first_of.ensures.same t

pub returns-in-Some-clause-number : goal.returns-in-Some-clause-number
returns-in-Some-clause-number g c = c.find_seen.ensures.number ∙ c.first_of.ensures.number

pub returns-in-Some-clause-goes_on : goal.returns-in-Some-clause-goes_on
returns-in-Some-clause-goes_on g c = goes_on_joined _ _ _ _ _ _ _ c.first_of.ensures.goes_on c.find_seen.ensures.goes_on

pub returns-in_err-before-2-clause-before : goal.returns-in_err-before-2-clause-before
returns-in_err-before-2-clause-before g c = λ t. IfOk-from_err c.from_residual-in_err-before-2.result _
    c.from_residual-in_err-before-2.ensures.0

pub returns-in_err-before-2-clause-below : goal.returns-in_err-before-2-clause-below
returns-in_err-before-2-clause-below g c = IfOk-from_err c.from_residual-in_err-before-2.result _
    c.from_residual-in_err-before-2.ensures.0

pub returns-in_err-before-2-clause-interval : goal.returns-in_err-before-2-clause-interval
returns-in_err-before-2-clause-interval g c = IfOk-from_err c.from_residual-in_err-before-2.result _
    c.from_residual-in_err-before-2.ensures.0

pub returns-in_err-before-2-clause-kind : goal.returns-in_err-before-2-clause-kind
returns-in_err-before-2-clause-kind g c = IfOk-from_err c.from_residual-in_err-before-2.result _
    c.from_residual-in_err-before-2.ensures.0

pub returns-in_err-before-2-clause-size : goal.returns-in_err-before-2-clause-size
returns-in_err-before-2-clause-size g c = IfOk-from_err c.from_residual-in_err-before-2.result _
    c.from_residual-in_err-before-2.ensures.0

pub returns-in_err-before-2-clause-failed : goal.returns-in_err-before-2-clause-failed
returns-in_err-before-2-clause-failed g c = rose_then c.from_residual-in_err-before-2.result _ _ _ _
    c.from_residual-in_err-before-2.ensures.1 (omega (
      arith,
      c.first_of.ensures.goes_on.later,
      c.find_seen.ensures.goes_on.later,
    ))
    c.in_err-before-2.ensures.failed

pub returns-in_err-before-2-clause-same : goal.returns-in_err-before-2-clause-same
returns-in_err-before-2-clause-same g c = λ t.
    c.walk.ensures.same (c.find_seen.ensures.goes_on.tells (c.first_of.ensures.goes_on.tells t))
    ∙ c.find_seen.ensures.same (c.first_of.ensures.goes_on.tells t)
    ∙ c.first_of.ensures.same t

pub returns-in_err-before-2-clause-number : goal.returns-in_err-before-2-clause-number
returns-in_err-before-2-clause-number g c = c.walk.ensures.number ∙ c.find_seen.ensures.number ∙
    c.first_of.ensures.number

pub returns-in_err-before-2-clause-goes_on : goal.returns-in_err-before-2-clause-goes_on
returns-in_err-before-2-clause-goes_on g c = goes_on_joined _ _ _ _ _ _ _ (goes_on_joined _ _ _ _ _ _ _
    c.first_of.ensures.goes_on c.find_seen.ensures.goes_on) c.walk.ensures.goes_on

pub returns-in-Some-2-clause-same : goal.returns-in-Some-2-clause-same
returns-in-Some-2-clause-same g c = λ t.
    c.walk.ensures.same (c.find_seen.ensures.goes_on.tells (c.first_of.ensures.goes_on.tells t))
    ∙ c.find_seen.ensures.same (c.first_of.ensures.goes_on.tells t)
    ∙ c.first_of.ensures.same t

pub returns-in-Some-2-clause-number : goal.returns-in-Some-2-clause-number
returns-in-Some-2-clause-number g c = c.walk.ensures.number ∙ c.find_seen.ensures.number ∙ c.first_of.ensures.number

pub returns-in-Some-2-clause-goes_on : goal.returns-in-Some-2-clause-goes_on
returns-in-Some-2-clause-goes_on g c = goes_on_joined _ _ _ _ _ _ _ (goes_on_joined _ _ _ _ _ _ _
    c.first_of.ensures.goes_on c.find_seen.ensures.goes_on) c.walk.ensures.goes_on

pub returns-in-None-clause-same : goal.returns-in-None-clause-same
returns-in-None-clause-same g c = λ t.
    c.walk.ensures.same (c.find_seen.ensures.goes_on.tells (c.first_of.ensures.goes_on.tells t))
    ∙ c.find_seen.ensures.same (c.first_of.ensures.goes_on.tells t)
    ∙ c.first_of.ensures.same t

pub returns-in-None-clause-number : goal.returns-in-None-clause-number
returns-in-None-clause-number g c = c.walk.ensures.number ∙ c.find_seen.ensures.number ∙ c.first_of.ensures.number

pub returns-in-None-clause-goes_on : goal.returns-in-None-clause-goes_on
returns-in-None-clause-goes_on g c = goes_on_joined _ _ _ _ _ _ _ (goes_on_joined _ _ _ _ _ _ _
    c.first_of.ensures.goes_on c.find_seen.ensures.goes_on) c.walk.ensures.goes_on
