use Rattle.std.proofs.Common.{◌≡◌, ◌++◌, drop}
use Rattle.fp_show.specs.DbText.{area_line, each_text}
use Rattle.fp_show.proofs.dedb.put_area_lines.Given as goal

-- the areas from this one on are left
abbrev pub invariant-loop-at : goal.invariant-loop-at
invariant-loop-at l =
    l.into ++ each_text area_line (drop l.at l.defs) (drop l.at l.areas)
    ≡ l.initial.into ++ each_text area_line l.defs l.areas
