use Rattle.key_order.proofs.Ascending.{with_one_ascends}
use Rattle.key_order.proofs.laws.an_edit_keeps_the_order.Goals as goal

pub returns : goal.returns
returns c = λ key x elements up. with_one_ascends key x elements up
