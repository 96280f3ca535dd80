use Rattle.root_anchor.proofs.OneDamage.{chain_fails_once}
use Rattle.root_anchor.proofs.laws.one_interval_is_damaged.Goals as goal

pub returns : goal.returns
returns c = λ shape types area anchor ci other a b. chain_fails_once a b
