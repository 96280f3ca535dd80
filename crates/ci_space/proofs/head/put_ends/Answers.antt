use Rattle.ci_space.proofs.Heads.{ends-tiles, drop-keeps}
use Rattle.ci_space.proofs.head.put_ends.Goals as goal

pub returns-clause-tiles : goal.returns-clause-tiles
returns-clause-tiles c = ends-tiles _ _ c.put_four.auto.bytes c.requires.control c.put_four.ensures.head
    c.put_four.ensures.others

pub returns-clause-others : goal.returns-clause-others
returns-clause-others c = drop-keeps _ _ 64 c.put_four.auto.bytes c.put_four.ensures.others
