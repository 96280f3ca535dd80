use Rattle.ci_locks.proofs.SetLemmas.{or_is}
use Rattle.ci_locks.proofs.sets.RegionSet.or.Goals as goal

pub returns : goal.returns
returns c = or_is c.args.self.0 c.args.others.0
