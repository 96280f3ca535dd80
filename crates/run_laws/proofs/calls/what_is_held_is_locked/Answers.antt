use Rattle.run_laws.proofs.HoldingLemmas.{begins_locked, reply_locked}
use Rattle.run_laws.proofs.calls.what_is_held_is_locked.Goals as goal

pub returns-clause-begins : goal.returns-clause-begins
returns-clause-begins c = begins_locked

pub returns-clause-behind : goal.returns-clause-behind
returns-clause-behind c def dedb db own held call none locked = reply_locked def dedb held db own locked call none
