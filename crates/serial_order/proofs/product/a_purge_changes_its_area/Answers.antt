use Rattle.serial_order.proofs.Changes.{purge_leaves}
use Rattle.serial_order.proofs.product.a_purge_changes_its_area.Goals as goal

pub returns : goal.returns
returns c = purge_leaves
