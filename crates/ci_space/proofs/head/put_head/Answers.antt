use Rattle.ci_space.proofs.Heads.{head-tiles, drop-keeps}
use Rattle.ci_space.proofs.head.put_head.Goals as goal

pub returns-clause-tiles : goal.returns-clause-tiles
returns-clause-tiles c = head-tiles _ _ c.args.head c.put_numbers.auto.bytes c.requires.allowed
    c.put_numbers.ensures.head c.put_numbers.ensures.spare c.put_numbers.ensures.between c.put_numbers.ensures.others

pub returns-clause-others : goal.returns-clause-others
returns-clause-others c = drop-keeps _ _ 32 c.put_numbers.auto.bytes c.put_numbers.ensures.others
