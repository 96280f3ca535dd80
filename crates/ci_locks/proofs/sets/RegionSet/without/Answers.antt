use Rattle.ci_locks.proofs.SetLemmas.{without_is}
use Rattle.ci_locks.proofs.sets.RegionSet.without.Goals as goal

pub returns : goal.returns
returns c = without_is c.args.self.0 c.args.region c.requires.some c.requires.most (search)
