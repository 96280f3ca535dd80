use Rattle.std.proofs.Common.{◌≡◌, drop}
use Rattle.def_tables.specs.Keys.{occurs}
use Rattle.fp_defs.specs.Areas.{area_names}
use Rattle.fp_defs.proofs.areas.is_area.Given as goal

abbrev pub invariant-loop-def : goal.invariant-loop-def
invariant-loop-def l = occurs (area_names (drop l.def-index l.defs)) l.name.0 ≡ occurs (area_names l.defs) l.name.0
