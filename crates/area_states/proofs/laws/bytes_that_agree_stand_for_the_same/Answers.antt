use Rattle.area_states.proofs.Behind.{same_bytes}
use Rattle.area_states.proofs.laws.bytes_that_agree_stand_for_the_same.Goals as goal

pub returns : goal.returns
returns c = same_bytes
