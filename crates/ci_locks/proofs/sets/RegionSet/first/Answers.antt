use Rattle.std.proofs.Common.{arith}
use Rattle.ci_locks.proofs.SetLemmas.{first_is, first_least}
use Rattle.ci_locks.proofs.sets.RegionSet.first.Goals as goal

pub returns-clause-some : goal.returns-clause-some
returns-clause-some c = first_is c.args.self.0 c.if-self-eq0.false (omega (arith, c.well_formed))

pub returns-clause-least : goal.returns-clause-least
returns-clause-least c = first_least c.args.self.0 c.if-self-eq0.false (omega (arith, c.well_formed))
