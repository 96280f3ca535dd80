use Rattle.std.specs.Prelude.{take}
use Rattle.msdb_store.proofs.Loads.{AreLoaded}
use Rattle.msdb_store.proofs.store.MsdbStore.start.Given as goal

-- the tables of the definitions so far
abbrev pub invariant-loop-def : goal.invariant-loop-def
invariant-loop-def l = AreLoaded (λ t. t.fields) (λ t. record { segments = t.segments.items })
    (take l.def-index l.def-items) l.tables.items
