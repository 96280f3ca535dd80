use Rattle.std.proofs.Common.{◌≡◌, ◌++◌, drop}
use Rattle.fp_show.specs.DbText.{each_text, msdb_text}
use Rattle.fp_show.proofs.show.put_msdbs.Given as goal

-- the databases from this one on are left
abbrev pub invariant-loop-at : goal.invariant-loop-at
invariant-loop-at l =
    l.into ++ each_text msdb_text (drop l.at l.defs) (drop l.at l.msdbs)
    ≡ l.initial.into ++ each_text msdb_text l.defs l.msdbs
