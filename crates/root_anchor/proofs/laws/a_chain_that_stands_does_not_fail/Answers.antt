use Rattle.root_anchor.proofs.Sound.{chain_sound}
use Rattle.root_anchor.proofs.laws.a_chain_that_stands_does_not_fail.Goals as goal

pub returns : goal.returns
returns c = λ shape types area anchor ci has. chain_sound has ci
