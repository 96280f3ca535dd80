use Rattle.std.proofs.Common.{◌≡◌, ◌≤◌, [], drop, map}
use Rattle.toml.specs.View.{table_view}
use Rattle.def_tables.specs.Readings.{in_turn}
use Rattle.fp_defs.specs.Dedbs.{intervals_of, dedb_of}
use Rattle.fp_defs.proofs.dedbs.dedbs_of.Given as goal

abbrev pub invariant-loop-table : goal.invariant-loop-table
invariant-loop-table l =
    (l.taken ≡ intervals_of l.defs)
    × (l.taken ≤ 524288)
    × (in_turn (dedb_of l.msdbs) l.defs (map (λ t. table_view t.now) (drop l.table-index l.tables)) ≡ in_turn
    (dedb_of l.msdbs) [] (map (λ t. table_view t.now) l.tables))
