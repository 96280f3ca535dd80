use Rattle.std.proofs.Common.{◌≡◌, drop, map, length}
use Rattle.toml.specs.Data.{as_table}
use Rattle.toml.specs.View.{items_view, table_view}
use Rattle.def_tables.specs.Values.{each}
use Rattle.def_tables.proofs.Loops.{onto}
use Rattle.def_tables.proofs.keys.tables_of.Given as goal

abbrev pub invariant-loop-item : goal.invariant-loop-item
invariant-loop-item l =
    (length l.tables.items ≡ l.item-index) × (onto (map (λ t. table_view t.now) l.tables.items)
    (each as_table (items_view (drop l.item-index l.items.items))) ≡ each as_table (items_view l.items.items))
