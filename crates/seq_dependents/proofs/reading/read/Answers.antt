use Rattle.std.proofs.Common.{arith}
use Rattle.std.proofs.lemmas.Result.{err_from_is_err_and}
use Rattle.seq_dependents.specs.Control.{IsKept}
use Rattle.seq_dependents.proofs.FaultLemmas.{between}
use Rattle.seq_dependents.proofs.reading.read.Goals as goal
use Rattle.plain_laws.proofs.Results.{same_fault}

pub returns-in_err-held-clause-damaged : goal.returns-in_err-held-clause-damaged
returns-in_err-held-clause-damaged g c = λ t n e.
    let p = err_from_is_err_and c.from_residual-in_err-held.result c.from_residual-in_err-held.ensures.1 in
    let same = c.in_ok-ends.ensures.same t in
    let kept : IsKept (g.I.Intervals.intervals c.args.i.now) c.args.serial =
    between (g.I.Intervals.intervals c.args.i.now) c.in_ok-ends.field-0.ends.begin c.in_ok-ends.field-0.ends.end
    c.args.serial (c.in_ok-ends.ensures.begin t) (c.in_ok-ends.ensures.end t) (omega (arith, c.if-serial-ends.false))
    (omega (arith, c.if-ends-serial.false)) in
    rw (← same) (c.in_err-held.ensures.damaged (c.get_control_of.ensures.goes_on.tells t) (rw same kept) n
    (same_fault _ _ _ _ p.1 p.2 e))
