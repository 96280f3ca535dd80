use Rattle.ci_locks.proofs.Holdings.{taken_out}
use Rattle.ci_locks.proofs.holding.remove_key.Goals as goal

pub returns : goal.returns
returns c = taken_out (λ key. key.items) c.args.key.now c.args.table.now c.remove.new.self c.remove.ensures.updates.1
    c.remove.ensures.entries
