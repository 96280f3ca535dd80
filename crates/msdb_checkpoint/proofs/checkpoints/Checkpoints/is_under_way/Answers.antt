use Rattle.std.proofs.Common.{◌∙◌, ap, sym}
use Rattle.msdb_checkpoint.specs.Steps.{Turn}
use Rattle.msdb_checkpoint.proofs.checkpoints.Checkpoints.is_under_way.Goals as goal
use Rattle.plain_laws.proofs.Options.{is_some_there}

pub returns-clause-some : goal.returns-clause-some
returns-clause-some c is =
    let found = is_some_there c.self.inside.under_way (sym c.is_some.ensures ∙ is) in
    (found.0, ap (λ (t : Turn). t.under_way) (sym c.self.view_is) ∙ found.1)
