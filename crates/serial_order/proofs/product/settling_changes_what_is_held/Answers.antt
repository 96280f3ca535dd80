use Rattle.serial_order.proofs.Queue.{sync_leaves}
use Rattle.serial_order.proofs.product.settling_changes_what_is_held.Goals as goal

pub returns : goal.returns
returns c = λ defs db next own held each. sync_leaves defs each db next own held
