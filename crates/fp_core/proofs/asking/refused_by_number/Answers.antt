use Rattle.std.proofs.Common.{◌∙◌, Some}
use Rattle.fp_model.specs.Lasts.{Last}
use Rattle.fp_core.proofs.Askings.{by_some}
use Rattle.fp_core.proofs.asking.refused_by_number.Goals as goal
use Rattle.plain_laws.proofs.Results.{if_ok_by}

pub returns-in-Some-of-clause-request : goal.returns-in-Some-of-clause-request
returns-in-Some-of-clause-request c scripts =
    let message = c.args.message.now in
    let last : Last =
    record { lterm = message.lterm; number = c.in-Some-of.last; line = c.in-Some-of.line.now } in
    if_ok_by _ _ c.refused_behind.result
    (λ found is. by_some scripts c.args.lasts.now.terminals message c.in-Some.number (Some last) c.in-Some.is
    c.in-Some-of.ensures.some ∙ is)
    (c.refused_behind.ensures.request scripts message message.lterm)
