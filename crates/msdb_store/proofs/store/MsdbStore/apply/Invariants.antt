use Rattle.std.specs.Prelude.{◌≡◌, List, length, take}
use Rattle.std.specs.List.{AllByRecursion}
use Rattle.fp_model.specs.Items.{with_items}
use Rattle.fp_model.specs.declared.definitions.MsdbDef.{MsdbDef}
use Rattle.msdb_store.specs.inside.Putting.{AreFew}
use Rattle.msdb_store.specs.Store.{IsFitSegment, IsOf}
use Rattle.msdb_store.proofs.store.MsdbStore.apply.Given as goal

-- the items so far are put
abbrev pub invariant-loop-item : goal.invariant-loop-item
invariant-loop-item l =
    (length l.self.msdbs ≡ length l.initial.self.msdbs)
    × (AreFew l.initial.self.msdbs → AreFew l.self.msdbs)
    × ((defs : List MsdbDef) → IsOf defs l.initial.self → AllByRecursion (IsFitSegment defs) l.item-items
    → IsOf defs l.self × (l.self.msdbs ≡ with_items defs l.initial.self.msdbs (take l.item-index l.item-items)))
