use Rattle.std.specs.Prelude.{◌≡◌, map, take}
use Rattle.msdb_store.proofs.store.MsdbStore.databases.Given as goal

-- the databases so far are copied
abbrev pub invariant-loop-table : goal.invariant-loop-table
invariant-loop-table l = l.msdbs ≡ map (λ t. record { segments = t.segments.items }) (take l.table-index l.table-items)
