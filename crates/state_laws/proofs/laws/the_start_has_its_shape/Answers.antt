use Rattle.state_laws.proofs.Start.{start_good}
use Rattle.state_laws.proofs.laws.the_start_has_its_shape.Goals as goal

pub returns : goal.returns
returns c = start_good
