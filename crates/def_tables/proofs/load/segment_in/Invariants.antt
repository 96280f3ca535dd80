use Rattle.std.proofs.Common.{◌≡◌, drop}
use Rattle.toml.specs.View.{items_view}
use Rattle.def_tables.specs.Values.{segment_in}
use Rattle.def_tables.proofs.Loops.{onto}
use Rattle.def_tables.proofs.load.segment_in.Given as goal

abbrev pub invariant-loop-i : goal.invariant-loop-i
invariant-loop-i l = onto l.segment.items (segment_in (drop l.i l.fields) (items_view (drop l.i l.texts))) ≡ segment_in
    l.fields (items_view l.texts)
