use Rattle.seq_dependents.proofs.Placing.{numbers_apart}
use Rattle.seq_dependents.proofs.laws.near_serials_have_different_slots.Goals as goal

pub returns : goal.returns
returns c = numbers_apart
