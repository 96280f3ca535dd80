use Rattle.std.proofs.Common.{rules}
use Rattle.fp_exits.proofs.SpreadLemmas.{group_below}
use Rattle.fp_exits.proofs.router.Router.group.Goals as goal

-- the number of the kind is below n
pub returns-clause-below : goal.returns-clause-below
returns-clause-below g c = group_below c.args.self.now.kind c.args.n c.args.tran.now c.call.result c.call.ensures
    (search rules) c.requires.positive
