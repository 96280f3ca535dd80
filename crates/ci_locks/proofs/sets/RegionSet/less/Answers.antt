use Rattle.ci_locks.proofs.SetLemmas.{less_is}
use Rattle.ci_locks.proofs.sets.RegionSet.less.Goals as goal

pub returns : goal.returns
returns c = less_is c.args.self.0 c.args.others.0 (search) (search)
