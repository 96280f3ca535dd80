use Rattle.area_laws.proofs.OrderLemmas.{changed_order, inserted_order, purged_order, shaped_order}
use Rattle.area_laws.proofs.laws.roots_are_in_order.Goals as goal

pub returns-clause-shaped : goal.returns-clause-shaped
returns-clause-shaped c = shaped_order

pub returns-clause-changed : goal.returns-clause-changed
returns-clause-changed c = changed_order

pub returns-clause-inserted : goal.returns-clause-inserted
returns-clause-inserted c = inserted_order

pub returns-clause-purged : goal.returns-clause-purged
returns-clause-purged c = purged_order
