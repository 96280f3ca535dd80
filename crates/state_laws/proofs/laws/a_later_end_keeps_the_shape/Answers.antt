use Rattle.state_laws.proofs.Inserting.{anchor_later}
use Rattle.state_laws.proofs.laws.a_later_end_keeps_the_shape.Goals as goal

pub returns : goal.returns
returns c = λ def anchor ends end roots e later. anchor_later def anchor ends end later roots e
