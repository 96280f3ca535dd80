use Rattle.run_laws.proofs.OneValue.{turn_once}
use Rattle.run_laws.proofs.schedules.a_turn_is_determined.Goals as goal

pub returns : goal.returns
returns c = turn_once
