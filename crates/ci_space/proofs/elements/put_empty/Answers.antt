use Rattle.std.proofs.Common.{◌∙◌, sym}
use Rattle.ci_space.proofs.Empties.{put-tiled-zeros, put-untiled-zeros}
use Rattle.ci_space.proofs.elements.put_empty.Goals as goal

pub returns-then-holds_elements : goal.returns-then-holds_elements
returns-then-holds_elements c = put-tiled-zeros _ _ c.requires.zero c.requires.size
    (sym c.holds_elements.ensures ∙ c.if-holds_elements.true)

pub returns-else-holds_elements : goal.returns-else-holds_elements
returns-else-holds_elements c = put-untiled-zeros _ _ c.requires.zero c.requires.size
    (sym c.holds_elements.ensures ∙ c.if-holds_elements.false)
