use Rattle.root_anchor.proofs.LawLemmas.{chain_stays}
use Rattle.root_anchor.proofs.laws.a_chain_stays_with_its_elements.Goals as goal

pub returns : goal.returns
returns c = chain_stays
