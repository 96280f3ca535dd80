use Rattle.anchor_elements.proofs.SpellingLemmas.{pointer_put}
use Rattle.anchor_elements.proofs.spelling.put_pointer.Goals as goal

pub returns-clause-pointer : goal.returns-clause-pointer
returns-clause-pointer c = pointer_put _ _ _ _ _ c.put_number.ensures c.put_short.ensures
