use Rattle.std.specs.Prelude.{◌≡◌, List, take}
use Rattle.std.specs.List.{AllByRecursion}
use Rattle.fp_model.specs.Items.{with_items, items_of}
use Rattle.fp_model.specs.declared.definitions.MsdbDef.{MsdbDef}
use Rattle.msdb_store.specs.Store.{IsFitSegment, IsOf}
use Rattle.fp_restart.proofs.reading.put_entries.Given as goal

-- the items of the entries so far are put
abbrev pub invariant-loop-entry : goal.invariant-loop-entry
invariant-loop-entry l = (defs : List MsdbDef) → IsOf defs l.initial.store
    → AllByRecursion (IsFitSegment defs) (items_of l.entries)
    → IsOf defs l.store × (l.store.msdbs ≡ with_items defs l.initial.store.msdbs
    (items_of (take l.entry-index l.entries)))
