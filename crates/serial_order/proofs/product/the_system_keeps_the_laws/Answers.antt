use Rattle.serial_order.proofs.ProductLaws.{laws_of}
use Rattle.serial_order.proofs.product.the_system_keeps_the_laws.Goals as goal

pub returns : goal.returns
returns c = laws_of
