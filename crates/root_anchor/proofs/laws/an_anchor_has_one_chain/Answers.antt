use Rattle.root_anchor.proofs.OneChain.{one_chain}
use Rattle.root_anchor.proofs.laws.an_anchor_has_one_chain.Goals as goal

pub returns : goal.returns
returns c = record {
  roots = λ shape types area anchor roots others elements more a b. (one_chain a b).0;
  elements = λ shape types area anchor roots others elements more a b. (one_chain a b).1;
}
