use Rattle.std.proofs.Common.{◌≡◌, [], drop, length, map}
use Rattle.toml.specs.View.{table_view}
use Rattle.def_tables.specs.Readings.{in_turn}
use Rattle.fp_defs.specs.Segments.{segment_of}
use Rattle.fp_defs.proofs.segments.segments_of.Given as goal

abbrev pub invariant-loop-table : goal.invariant-loop-table
invariant-loop-table l =
    (length l.drafts ≡ l.table-index)
    × (in_turn segment_of l.drafts (map (λ t. table_view t.now) (drop l.table-index l.tables)) ≡ in_turn segment_of []
    (map (λ t. table_view t.now) l.tables))
