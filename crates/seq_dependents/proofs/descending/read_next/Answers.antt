use Rattle.std.proofs.lemmas.Result.{err_from_is_err_and}
use Rattle.seq_dependents.proofs.FaultLemmas.{serial_missing}
use Rattle.seq_dependents.proofs.descending.read_next.Goals as goal
use Rattle.plain_laws.proofs.Options.{none_isnt_some}
use Rattle.plain_laws.proofs.Results.{same_fault}

pub returns-in_err-last-clause-damaged : goal.returns-in_err-last-clause-damaged
returns-in_err-last-clause-damaged g c = λ t r k n e.
    let p = err_from_is_err_and c.from_residual.result c.from_residual.ensures.1 in
    c.in_err-last.ensures.damaged t n (same_fault _ _ _ _ p.1 p.2 e)

pub returns-in-Ok-None-clause-damaged : goal.returns-in-Ok-None-clause-damaged
returns-in-Ok-None-clause-damaged g c = λ t r k n e.
    serial_missing c.args.part.now _ c.args.serial c.in_ok-last.last.ci n _ c.in_ok-last.ensures.place
    (c.in_ok-last.ensures.read t r).is_bytes k
    (λ h. none_isnt_some _ c.in-Ok-None.field-0-is (c.in-Ok-None.ensures.some.1 h)) e
