use Rattle.state_laws.proofs.Roots.{edited_good}
use Rattle.state_laws.proofs.laws.an_edit_keeps_the_shape.Goals as goal

pub returns : goal.returns
returns c = edited_good
