use Rattle.msdb_checkpoint.proofs.StageLemmas.{shut_begins, shut_within}
use Rattle.msdb_checkpoint.proofs.stages.close.Goals as goal

pub returns-clause-next : goal.returns-clause-next
returns-clause-next g c t = shut_begins c.args.set c.args.body.now _ (c.in_ok-shut.ensures.shut t)

pub returns-clause-no_longer : goal.returns-clause-no_longer
returns-clause-no_longer g c t = shut_within c.args.body.now _ _ (c.in_ok-shut.ensures.shut t).closed.stands
    (c.in_ok-shut.ensures.rest t)
