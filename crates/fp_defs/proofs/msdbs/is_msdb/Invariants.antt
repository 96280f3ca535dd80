use Rattle.std.proofs.Common.{◌≡◌, drop}
use Rattle.def_tables.specs.Keys.{occurs}
use Rattle.fp_defs.specs.Msdbs.{msdb_names}
use Rattle.fp_defs.proofs.msdbs.is_msdb.Given as goal

abbrev pub invariant-loop-def : goal.invariant-loop-def
invariant-loop-def l = occurs (msdb_names (drop l.def-index l.defs)) l.name.0 ≡ occurs (msdb_names l.defs) l.name.0
