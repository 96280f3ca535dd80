use Rattle.msdb_store.specs.Store.{IsOf}
use Rattle.call_tests.proofs.queues.first_other.Given as goal

-- the store stays one of the definitions
abbrev pub invariant-loop-place : goal.invariant-loop-place
invariant-loop-place l = IsOf l.defs.msdbs l.store
