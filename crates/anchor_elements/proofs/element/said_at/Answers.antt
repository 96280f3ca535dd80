use Rattle.anchor_elements.proofs.ReadLemmas.{none_whole, refused}
use Rattle.anchor_elements.proofs.element.said_at.Goals as goal

pub returns-then-not-is_whole-clause-none : goal.returns-then-not-is_whole-clause-none
returns-then-not-is_whole-clause-none c = none_whole _ c.content-content.ensures
    (refused c.is_whole.ensures c.if-not-is_whole.true)
