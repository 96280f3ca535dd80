use Rattle.root_anchor.proofs.LawLemmas.{chain_element}
use Rattle.root_anchor.proofs.laws.each_element_has_a_segment.Goals as goal

pub returns : goal.returns
returns c = chain_element
