use Rattle.root_anchor.proofs.RootLemmas.{numbered_root}
use Rattle.root_anchor.proofs.laws.a_root_at_a_place_is_that_of_the_chain.Goals as goal

pub returns : goal.returns
returns c = λ shape types area anchor number place roots elements chain has.
    numbered_root shape types area anchor number place roots elements chain has
