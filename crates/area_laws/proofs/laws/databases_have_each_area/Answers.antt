use Rattle.area_laws.proofs.Areawise.{commits_keep, databases_have, purges_keep}
use Rattle.area_laws.proofs.laws.databases_have_each_area.Goals as goal

pub returns-clause-shaped : goal.returns-clause-shaped
returns-clause-shaped c = databases_have

pub returns-clause-committed : goal.returns-clause-committed
returns-clause-committed c = commits_keep

pub returns-clause-purged : goal.returns-clause-purged
returns-clause-purged c = purges_keep
