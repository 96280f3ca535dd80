use Rattle.std.proofs.Common.{◌≡◌, [], drop}
use Rattle.toml.specs.View.{items_view}
use Rattle.def_tables.specs.Readings.{in_turn}
use Rattle.fp_defs.specs.Whole.{items_in, group_of}
use Rattle.fp_defs.proofs.whole.groups_of.Given as goal

abbrev pub invariant-loop-item : goal.invariant-loop-item
invariant-loop-item l = in_turn group_of l.groups (items_in (items_view (drop l.item-index l.items.items))) ≡ in_turn
    group_of [] (items_in (items_view l.items.items))
