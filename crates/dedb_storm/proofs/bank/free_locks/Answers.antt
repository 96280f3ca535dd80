use Rattle.dedb_storm.proofs.Banks.{starts_free}
use Rattle.dedb_storm.proofs.bank.free_locks.Goals as goal

pub returns : goal.returns
returns c = starts_free c.in_ok-locks.locks c.in_ok-locks.ensures.regions c.in_ok-locks.ensures.none
