use Rattle.seq_dependents.proofs.Controls.{puts_ends}
use Rattle.seq_dependents.proofs.control.put_ends.Goals as goal
use Rattle.plain_laws.proofs.Results.{on_ok_map}

pub returns-clause-put : goal.returns-clause-put
returns-clause-put g c = λ t e.
    on_ok_map _ _ _ (λ put. puts_ends _ _ _ _ _ _ _ e c.requires.interval c.requires.kind c.ends.ensures
    c.set_ends.ensures.ends c.set_ends.ensures.head c.set_ends.ensures.size c.set_ends.ensures.others put)
    (c.put_interval.ensures.put t)
