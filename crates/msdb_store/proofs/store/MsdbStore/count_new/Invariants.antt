use Rattle.std.proofs.Common.{◌≡◌, ◌≤◌, List, count_by, take}
use Rattle.fp_model.specs.declared.definitions.MsdbDef.{MsdbDef}
use Rattle.msdb_store.specs.Settling.{adds}
use Rattle.msdb_store.specs.Store.{IsOf}
use Rattle.msdb_store.proofs.store.MsdbStore.count_new.Given as goal

-- those so far are counted
abbrev pub invariant-loop-item : goal.invariant-loop-item
invariant-loop-item l =
    (l.count ≤ l.item-index) × ((defs : List MsdbDef) → IsOf defs l.self
    → l.count ≡ count_by (adds defs l.self.msdbs) (take l.item-index l.item-items))
