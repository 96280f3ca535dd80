use Rattle.ci_overflow.proofs.Moving.{link-put}
use Rattle.ci_overflow.proofs.freed.put_link.Goals as goal
use Rattle.plain_laws.proofs.Results.{on_ok_map}

pub returns-clause-put : goal.returns-clause-put
returns-clause-put g c = λ t.
    on_ok_map _ _ _ (λ put. link-put _ _ _ _ _ c.head-head.result c.requires.interval c.head-head.ensures.head
    c.set_head.ensures.head c.set_head.ensures.tiles c.set_head.ensures.others put) (c.write.ensures.put t)
