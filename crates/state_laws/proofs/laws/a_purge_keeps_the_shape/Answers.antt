use Rattle.state_laws.proofs.Purging.{purge_good}
use Rattle.state_laws.proofs.laws.a_purge_keeps_the_shape.Goals as goal

pub returns : goal.returns
returns c = λ defs set n db next good e. purge_good defs db good set n next e
