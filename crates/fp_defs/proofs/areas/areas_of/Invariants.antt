use Rattle.std.proofs.Common.{◌≡◌, [], drop, map}
use Rattle.toml.specs.View.{table_view}
use Rattle.def_tables.specs.Readings.{in_turn}
use Rattle.fp_defs.specs.Areas.{area_of}
use Rattle.fp_defs.specs.Dedbs.{areas_named}
use Rattle.fp_defs.proofs.areas.areas_of.Given as goal

abbrev pub invariant-loop-table : goal.invariant-loop-table
invariant-loop-table l =
    in_turn (area_of l.sequential (areas_named l.dedbs)) l.defs
    (map (λ t. table_view t.now) (drop l.table-index l.tables))
    ≡ in_turn (area_of l.sequential (areas_named l.dedbs)) [] (map (λ t. table_view t.now) l.tables)
