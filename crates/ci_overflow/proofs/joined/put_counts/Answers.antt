use Rattle.ci_overflow.proofs.Joins.{ends-put}
use Rattle.ci_overflow.proofs.joined.put_counts.Goals as goal
use Rattle.plain_laws.proofs.Results.{on_ok_map}

pub returns-clause-put : goal.returns-clause-put
returns-clause-put g c = λ t.
    on_ok_map _ _ _ (λ put. ends-put _ _ _ _ _ _ _ c.requires.interval c.requires.kind c.ends-ends.ensures
    c.set_ends.ensures.ends c.set_ends.ensures.head c.set_ends.ensures.size c.set_ends.ensures.others put)
    (c.write.ensures.put t)
