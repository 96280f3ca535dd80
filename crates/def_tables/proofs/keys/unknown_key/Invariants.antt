use Rattle.std.proofs.Common.{◌≡◌}
use Rattle.toml.specs.View.{table_view}
use Rattle.def_tables.specs.Keys.{unknown_key}
use Rattle.def_tables.proofs.KeyLemmas.{unknown_in}
use Rattle.def_tables.proofs.keys.unknown_key.Given as goal

abbrev pub invariant-loop-key : goal.invariant-loop-key
invariant-loop-key l = unknown_in l.form l.key-iterator ≡ unknown_key l.form (table_view l.table)
