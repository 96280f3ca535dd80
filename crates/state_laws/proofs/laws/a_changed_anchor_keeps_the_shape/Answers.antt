use Rattle.state_laws.proofs.Changing.{changed_good}
use Rattle.state_laws.proofs.laws.a_changed_anchor_keeps_the_shape.Goals as goal

pub returns : goal.returns
returns c = λ def dedb anchor roots good fits. changed_good def dedb anchor roots good fits
