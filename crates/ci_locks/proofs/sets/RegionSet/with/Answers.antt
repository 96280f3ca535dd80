use Rattle.ci_locks.proofs.SetLemmas.{with_is}
use Rattle.ci_locks.proofs.sets.RegionSet.with.Goals as goal

pub returns : goal.returns
returns c = with_is c.args.self.0 c.args.region c.requires.some c.requires.most
