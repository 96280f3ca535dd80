use Rattle.std.proofs.Common.{◌≤◌, List}
use Rattle.fp_model.specs.declared.definitions.MsdbDef.{MsdbDef}
use Rattle.msdb_store.specs.Settling.{IsStaged}
use Rattle.msdb_store.specs.Store.{IsOf}
use Rattle.msdb_store.proofs.Publishing.{IsPublishing}
use Rattle.msdb_store.proofs.store.MsdbStore.publish.Given as goal

-- the items so far are put, and the others are left
abbrev pub invariant-loop-item : goal.invariant-loop-item
invariant-loop-item l =
    (defs : List MsdbDef) → IsOf defs l.initial.self → IsStaged defs l.initial.self.msdbs l.fn.staged
    → l.fn.staged.inserts ≤ l.initial.self.spare
    → IsPublishing defs l.initial.self l.self l.fn.staged l.item-iterator.rest.items
