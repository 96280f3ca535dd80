use Rattle.root_anchor.proofs.OneChain.{one_segment}
use Rattle.root_anchor.proofs.laws.an_element_has_one_segment.Goals as goal

pub returns : goal.returns
returns c = λ types area type at s t h k. one_segment h k
