use Rattle.std.proofs.Common.{◌≡◌, List, drop}
use Rattle.std.specs.Prelude.{count_by}
use Rattle.fp_model.specs.declared.definitions.MsdbDef.{MsdbDef}
use Rattle.msdb_store.specs.Settling.{IsStaged, adds}
use Rattle.msdb_store.specs.Store.{IsOf}
use Rattle.msdb_store.proofs.Publishing.{IsPublishing}
use Rattle.msdb_store.proofs.store.MsdbStore.publish_over.Given as goal

-- the items so far are put, and the others are left, of which none adds a segment
abbrev pub invariant-loop-item : goal.invariant-loop-item
invariant-loop-item l =
    (defs : List MsdbDef) → IsOf defs l.initial.self
    → IsStaged defs l.initial.self.msdbs (record { items = l.item-items; inserts = 0 })
    → IsPublishing defs l.initial.self l.self (record { items = l.item-items; inserts = 0 })
    (drop l.item-index l.item-items)
    × (count_by (adds defs l.self.msdbs) (drop l.item-index l.item-items) ≡ 0)
