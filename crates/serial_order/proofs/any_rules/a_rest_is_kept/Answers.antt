use Rattle.serial_order.proofs.Turns.{rest_kept, at_rest_rests}
use Rattle.serial_order.proofs.any_rules.a_rest_is_kept.Goals as goal

pub returns : goal.returns
returns c = record { kept = rest_kept; rest = at_rest_rests }
