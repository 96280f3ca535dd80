use Rattle.std.proofs.Common.{◌≡◌, drop}
use Rattle.def_tables.specs.Keys.{occurs}
use Rattle.fp_defs.specs.Dedbs.{areas_named}
use Rattle.fp_defs.proofs.areas.is_area_of_any.Given as goal

abbrev pub invariant-loop-dedb : goal.invariant-loop-dedb
invariant-loop-dedb l = occurs (areas_named (drop l.dedb-index l.dedbs)) l.name.0 ≡ occurs (areas_named l.dedbs)
    l.name.0
