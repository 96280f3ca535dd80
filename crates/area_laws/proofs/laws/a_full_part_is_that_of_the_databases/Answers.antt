use Rattle.area_laws.proofs.FullLemmas.{first_is_full, none_is_full}
use Rattle.area_laws.proofs.laws.a_full_part_is_that_of_the_databases.Goals as goal

pub returns-clause-none : goal.returns-clause-none
returns-clause-none c = none_is_full

pub returns-clause-first : goal.returns-clause-first
returns-clause-first c = first_is_full
