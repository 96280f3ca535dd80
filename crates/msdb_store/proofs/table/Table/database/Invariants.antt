use Rattle.std.specs.Prelude.{◌≡◌, take}
use Rattle.msdb_store.proofs.table.Table.database.Given as goal

-- the segments so far are copied
abbrev pub invariant-loop-at : goal.invariant-loop-at
invariant-loop-at l = l.segments ≡ take l.at l.self.segments.items
