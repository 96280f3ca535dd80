use Rattle.area_laws.proofs.Areawise.{done_in_area, done_in_areas}
use Rattle.area_laws.proofs.laws.a_commit_is_that_of_the_databases.Goals as goal

pub returns-clause-area : goal.returns-clause-area
returns-clause-area c = done_in_area

pub returns-clause-areas : goal.returns-clause-areas
returns-clause-areas c = done_in_areas
