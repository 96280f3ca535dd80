use Rattle.std.proofs.lemmas.Result.{err_from_is_err_and}
use Rattle.ci_overflow.proofs.Knowns.{known-room}
use Rattle.ci_overflow.proofs.tried.try_chain.Goals as goal
use Rattle.plain_laws.proofs.Results.{same_fault}

pub returns-in_err-stop-clause-damaged : goal.returns-in_err-stop-clause-damaged
returns-in_err-stop-clause-damaged g c = λ t u b f k n e.
    let p = err_from_is_err_and c.from_residual.result c.from_residual.ensures.1 in
    c.in_err-stop.ensures.damaged t u b f k n (same_fault _ _ _ _ p.1 p.2 e)

pub returns-in_ok-note-clause-known : goal.returns-in_ok-note-clause-known
returns-in_ok-note-clause-known g c = λ t k.
    known-room c.args.shape.now _ _ c.args.uow _ _ _ _ (c.in_ok-stop.ensures.taken t) (c.in_ok-stop.ensures.full t)
    (c.in_ok-note.ensures.known c.args.shape.now _ c.args.uow _ k (c.in_ok-stop.ensures.run t k c.if-stop-base.true))

pub returns-else-stop-base-clause-known : goal.returns-else-stop-base-clause-known
returns-else-stop-base-clause-known g c = λ t k.
    known-room c.args.shape.now _ _ c.args.uow _ _ _ _ (c.in_ok-stop.ensures.taken t) (c.in_ok-stop.ensures.full t) k
