use Rattle.std.proofs.Common.{◌∙◌, ap, sym}
use Rattle.std.proofs.lemmas.Result.{err_from_is_err_and, IfOk-weaker}
use Rattle.ci_overflow.specs.Lists.{bytes_at}
use Rattle.ci_overflow.specs.Faults.{FitsEmpty}
use Rattle.ci_overflow.proofs.FaultLemmas.{control-fault}
use Rattle.ci_overflow.proofs.Joins.{first_free_is}
use Rattle.ci_overflow.proofs.Joins.{next-new}
use Rattle.ci_overflow.proofs.room.join_next.Goals as goal
use Rattle.plain_laws.proofs.Results.{same_fault}

pub returns-then-ends-eq0-clause-joined : goal.returns-then-ends-eq0-clause-joined
returns-then-ends-eq0-clause-joined g c = λ t.
    let same = c.in_ok-control.ensures.same t in
    let bytes = c.in_ok-control.ensures.bytes t in
    let now = bytes ∙ ap (λ xs. bytes_at xs 0) (sym same) in
    IfOk-weaker _ _ _ (λ room j. next-new _ _ _ room _ _ _ _ _ bytes c.ends.ensures c.if-ends-eq0.true same (λ _. j))
    (c.join_new.ensures.joined (c.read.ensures.goes_on.tells t) now)

pub returns-in_err-control-clause-damaged : goal.returns-in_err-control-clause-damaged
returns-in_err-control-clause-damaged g c = λ t f n e.
    let p = err_from_is_err_and c.from_residual.result c.from_residual.ensures.1 in
    control-fault _ _ n (c.in_err-control.ensures.damaged t n (same_fault _ _ _ _ p.1 p.2 e))

pub returns-then-ends-eq0-clause-damaged : goal.returns-then-ends-eq0-clause-damaged
returns-then-ends-eq0-clause-damaged g c = λ t f n e.
    let same = c.in_ok-control.ensures.same t in
    let now = c.in_ok-control.ensures.bytes t ∙ ap (λ xs. bytes_at xs 0) (sym same) in
    let fits : FitsEmpty (g.I.Intervals.size c.read.new.i) c.args.needed = rw c.read.ensures.goes_on.same_size f in
    rw same at (c.join_new.ensures.damaged (c.read.ensures.goes_on.tells t) now fits n e)

pub returns-else-ends-eq0-clause-damaged : goal.returns-else-ends-eq0-clause-damaged
returns-else-ends-eq0-clause-damaged g c = λ t f n e.
    let same = c.in_ok-control.ensures.same t in
    let now = c.in_ok-control.ensures.bytes t ∙ ap (λ xs. bytes_at xs 0) (sym same) in
    let fits : FitsEmpty (g.I.Intervals.size c.read.new.i) c.args.needed = rw c.read.ensures.goes_on.same_size f in
    rw same at (c.join_free.ensures.damaged (c.read.ensures.goes_on.tells t) now
    (λ z. c.if-ends-eq0.false (first_free_is _ _ _ now c.ends.ensures ∙ z)) fits n e)
