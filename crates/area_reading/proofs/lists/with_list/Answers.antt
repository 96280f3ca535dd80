use Rattle.std.proofs.Common.{◌≡◌, ◌∙◌, ap}
use Rattle.std.proofs.lemmas.Result.{err_from_is_err_and}
use Rattle.area_states.specs.States.{newest_serial}
use Rattle.area_reading.proofs.lists.with_list.Goals as goal
use Rattle.plain_laws.proofs.Results.{same_fault}

pub returns-in_err-seqs-clause-damaged : goal.returns-in_err-seqs-clause-damaged
returns-in_err-seqs-clause-damaged g c = λ told ends kept has at ci e.
    let f = err_from_is_err_and c.from_residual.result c.from_residual.ensures.1 in
    c.in_err-seqs.ensures.damaged told ends kept c.args.root has at
    (c.newest_serial-newest.ensures ∙ ap newest_serial c.as_slice.ensures) ci (same_fault _ _ _ _ f.1 f.2 e)
