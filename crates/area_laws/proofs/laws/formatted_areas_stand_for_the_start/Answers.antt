use Rattle.area_laws.proofs.StartLemmas.{start_has, starts_for}
use Rattle.area_laws.proofs.laws.formatted_areas_stand_for_the_start.Goals as goal

pub returns-clause-area : goal.returns-clause-area
returns-clause-area c = start_has

pub returns-clause-areas : goal.returns-clause-areas
returns-clause-areas c = starts_for
