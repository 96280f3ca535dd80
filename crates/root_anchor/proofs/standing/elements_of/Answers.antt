use Rattle.std.proofs.Common.{refl}
use Rattle.root_anchor.proofs.BaseLemmas.{standing_walked, in_turn_walked}
use Rattle.root_anchor.proofs.standing.elements_of.Goals as goal

pub returns-clause-standing : goal.returns-clause-standing
returns-clause-standing g c = λ t. standing_walked _ _ _ _ c.in_ok-met.field-0 _ refl (c.in_ok-met.ensures.walked t)

pub returns-clause-in_turn : goal.returns-clause-in_turn
returns-clause-in_turn g c = λ t. in_turn_walked _ _ _ _ c.in_ok-met.field-0 _ refl (c.in_ok-met.ensures.walked t)
