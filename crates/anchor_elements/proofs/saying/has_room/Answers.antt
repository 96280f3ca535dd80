use Rattle.anchor_elements.proofs.ElementLemmas.{room_is}
use Rattle.anchor_elements.proofs.saying.has_room.Goals as goal

pub returns-then-is_used : goal.returns-then-is_used
returns-then-is_used c = room_is _ _ _ _ (c.is_used.ensures.0 c.if-is_used.true) c.content.ensures
