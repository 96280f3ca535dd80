use Rattle.ci_space.proofs.Heads.{head-put}
use Rattle.ci_space.proofs.head.put_numbers.Goals as goal

pub returns-clause-head : goal.returns-clause-head
returns-clause-head c = head-put _ _ _ _ _ _ c.requires.kind c.put_number.ensures c.put_short.ensures
    c.put_number-2.ensures c.put_number-3.ensures
