use Rattle.std.proofs.Common.{◌≤◌, List, length, take, drop}
use Rattle.fp_model.specs.declared.definitions.MsdbDef.{MsdbDef}
use Rattle.msdb_store.specs.Settling.{CanSettle}
use Rattle.msdb_store.proofs.Queues.{IsSettling}
use Rattle.msdb_store.proofs.store.MsdbStore.check.Given as goal

-- the calls so far are settled and staged, and the rest is left
abbrev pub invariant-loop-at : goal.invariant-loop-at
invariant-loop-at l =
    (length l.staging ≤ l.at) × ((defs : List MsdbDef) → CanSettle defs l.self l.deferred
    → IsSettling defs l.self.msdbs l.deferred (take l.at l.deferred) l.at (drop l.at l.deferred) l.staging)
