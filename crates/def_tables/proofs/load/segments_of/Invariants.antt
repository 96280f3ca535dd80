use Rattle.std.proofs.Common.{◌≡◌, drop}
use Rattle.toml.specs.View.{items_view}
use Rattle.def_tables.specs.Values.{each, as_segment}
use Rattle.def_tables.proofs.Loops.{onto}
use Rattle.def_tables.proofs.load.segments_of.Given as goal

abbrev pub invariant-loop-row : goal.invariant-loop-row
invariant-loop-row l = onto l.load (each (as_segment l.fields) (items_view (drop l.row-index l.rows.items))) ≡ each
    (as_segment l.fields) (items_view l.rows.items)
