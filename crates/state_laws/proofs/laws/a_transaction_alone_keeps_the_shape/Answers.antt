use Rattle.state_laws.proofs.Alone.{alone_good}
use Rattle.state_laws.proofs.laws.a_transaction_alone_keeps_the_shape.Goals as goal

pub returns : goal.returns
returns c = λ defs scripts now states message notes ending are fit good past e.
    alone_good defs scripts now states message are good past fit notes ending e
