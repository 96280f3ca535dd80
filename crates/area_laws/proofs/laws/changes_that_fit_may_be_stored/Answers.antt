use Rattle.area_laws.proofs.FormLemmas.{orders_brought, storable_changes}
use Rattle.area_laws.proofs.laws.changes_that_fit_may_be_stored.Goals as goal

pub returns-clause-storable : goal.returns-clause-storable
returns-clause-storable c = storable_changes

pub returns-clause-ordered : goal.returns-clause-ordered
returns-clause-ordered c = orders_brought
