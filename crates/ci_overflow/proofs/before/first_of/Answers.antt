use Rattle.std.proofs.lemmas.Result.{err_from_is_err_and}
use Rattle.ci_overflow.proofs.FaultLemmas.{first-fault}
use Rattle.ci_overflow.proofs.before.first_of.Goals as goal
use Rattle.plain_laws.proofs.Results.{same_fault}

pub returns-in_err-interval-clause-damaged : goal.returns-in_err-interval-clause-damaged
returns-in_err-interval-clause-damaged g c = λ t b u n e.
    let p = err_from_is_err_and c.from_residual.result c.from_residual.ensures.1 in
    first-fault _ _ c.args.uow _ n c.first_base-first.ensures.number u b
    (c.in_err-interval.ensures.damaged t n (same_fault _ _ _ _ p.1 p.2 e))
