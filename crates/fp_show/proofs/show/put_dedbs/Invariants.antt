use Rattle.std.proofs.Common.{◌≡◌, ◌++◌, drop}
use Rattle.fp_show.specs.DbText.{dedb_text, each_text}
use Rattle.fp_show.proofs.show.put_dedbs.Given as goal

-- the databases from this one on are left
abbrev pub invariant-loop-at : goal.invariant-loop-at
invariant-loop-at l =
    l.into ++ each_text dedb_text (drop l.at l.defs) (drop l.at l.dedbs)
    ≡ l.initial.into ++ each_text dedb_text l.defs l.dedbs
