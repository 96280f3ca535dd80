use Rattle.balancing.specs.Numbered.{as_last}
use Rattle.balancing.proofs.lasts.put_over.Goals as goal
use Rattle.plain_laws.proofs.Places.{map_set}

pub returns-clause-items : goal.returns-clause-items
returns-clause-items c = map_set (λ b. as_last b.value) c.args.terminals.now.items c.args.at _
