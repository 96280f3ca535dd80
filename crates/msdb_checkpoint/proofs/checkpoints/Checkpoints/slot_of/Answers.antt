use Rattle.std.proofs.Common.{rules}
use Rattle.msdb_checkpoint.proofs.checkpoints.Checkpoints.slot_of.Goals as goal

pub returns-in_err-set-clause-damaged : goal.returns-in_err-set-clause-damaged
returns-in_err-set-clause-damaged g c set t is = c.newest_set.ensures.damaged set t (search rules)
