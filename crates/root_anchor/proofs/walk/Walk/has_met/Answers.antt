use Rattle.root_anchor.proofs.WalkLemmas.{met_known}
use Rattle.root_anchor.proofs.walk.Walk.has_met.Goals as goal

pub returns : goal.returns
returns c = λ number w. met_known number _ _ _ c.contains.ensures w
