use Rattle.state_laws.proofs.Settling.{settled_good}
use Rattle.state_laws.proofs.laws.settling_keeps_the_shape.Goals as goal

pub returns : goal.returns
returns c = settled_good
