use Rattle.area_laws.proofs.Areawise.{purged_in_areas}
use Rattle.area_laws.proofs.PurgeLemmas.{purge_elsewhere, purge_here, purge_none, purge_there}
use Rattle.area_laws.proofs.laws.a_purge_is_that_of_the_databases.Goals as goal

pub returns-clause-area : goal.returns-clause-area
returns-clause-area c = purge_here

pub returns-clause-others : goal.returns-clause-others
returns-clause-others c = purge_elsewhere

pub returns-clause-areas : goal.returns-clause-areas
returns-clause-areas c = purged_in_areas

pub returns-clause-some : goal.returns-clause-some
returns-clause-some c = purge_there

pub returns-clause-none : goal.returns-clause-none
returns-clause-none c = purge_none
