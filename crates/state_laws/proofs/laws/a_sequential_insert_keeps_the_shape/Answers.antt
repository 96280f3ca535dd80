use Rattle.state_laws.proofs.Inserting.{anchor_with}
use Rattle.state_laws.proofs.laws.a_sequential_insert_keeps_the_shape.Goals as goal

pub returns : goal.returns
returns c = λ def anchor ends roots key bytes type e order kind long. anchor_with def anchor ends key bytes type order
    kind long roots e
