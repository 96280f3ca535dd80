use Rattle.std.proofs.Common.{◌≡◌, drop}
use Rattle.def_tables.specs.Keys.{occurs}
use Rattle.fp_defs.specs.Dedbs.{dedb_names}
use Rattle.fp_defs.proofs.dedbs.is_dedb.Given as goal

abbrev pub invariant-loop-def : goal.invariant-loop-def
invariant-loop-def l = occurs (dedb_names (drop l.def-index l.defs)) l.name.0 ≡ occurs (dedb_names l.defs) l.name.0
