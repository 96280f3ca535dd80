use Rattle.ci_overflow.proofs.Moving.{free-put}
use Rattle.ci_overflow.proofs.freed.put_free.Goals as goal
use Rattle.plain_laws.proofs.Results.{on_ok_map}

pub returns-clause-put : goal.returns-clause-put
returns-clause-put g c = λ t.
    let t1 = c.put_counts.ensures.goes_on.tells t in
    on_ok_map _ _ _ (λ put. free-put _ _ _ _ _ _ _ _ c.requires.empty c.set_head.ensures.size c.set_head.ensures.tiles
    c.ends-ends.ensures c.set_head.ensures.head (c.in_ok-put_counts.ensures.put t) put) (c.write.ensures.put t1)
