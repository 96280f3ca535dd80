use Rattle.ci_locks.proofs.Holdings.{set_there}
use Rattle.ci_locks.proofs.holding.set_key.Goals as goal

pub returns-in-Some : goal.returns-in-Some
returns-in-Some c =
    let written = c.get_mut.follows.holds c.args.holders in
    set_there (λ key. key.items) c.args.key.now c.args.table.now (c.get_mut.follows.lender c.args.holders)
    c.args.holders (written.3 c.requires).1 written.0
