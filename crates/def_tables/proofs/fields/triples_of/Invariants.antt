use Rattle.std.proofs.Common.{◌≡◌, drop}
use Rattle.toml.specs.View.{items_view}
use Rattle.def_tables.specs.Values.{each, as_triple}
use Rattle.def_tables.proofs.Loops.{onto}
use Rattle.def_tables.proofs.fields.triples_of.Given as goal

abbrev pub invariant-loop-item : goal.invariant-loop-item
invariant-loop-item l = onto l.triples.items (each as_triple (items_view (drop l.item-index l.items.items))) ≡ each
    as_triple (items_view l.items.items)
