use Rattle.std.proofs.Common.{◌≡◌, ◌∙◌, ℕ, List, ap}
use Rattle.std.proofs.lemmas.Result.{err_from_is_err_and}
use Rattle.seq_dependents.specs.Slots.{part_of}
use Rattle.seq_dependents.specs.Puts.{segment_size}
use Rattle.seq_dependents.proofs.appending.append.Goals as goal
use Rattle.plain_laws.proofs.Results.{same_fault}

pub returns-in_err-put_behind-clause-damaged : goal.returns-in_err-put_behind-clause-damaged
returns-in_err-put_behind-clause-damaged g c = λ t n e.
    let p = err_from_is_err_and c.from_residual-in_err-put_behind.result c.from_residual-in_err-put_behind.ensures.1 in
    let fault = c.in_err-put_behind.ensures.damaged (c.get_control_of.ensures.goes_on.tells t) n
    (same_fault _ _ _ _ p.1 p.2 e) in
    let part : c.part_for-part.result ≡ part_of c.args.shape.now c.args.capacity (segment_size c.args.items.now) =
    c.part_for-part.ensures ∙ ap
    (λ (xs : List (List ℕ)). part_of c.args.shape.now c.args.capacity (segment_size xs)) c.as_slice.ensures in
    rw (← c.get_control_of.ensures.same t, ← part) fault
