use Rattle.std.specs.Prelude.{◌≡◌, ◌++◌, map, length}
use Rattle.msdb_store.specs.inside.Putting.{AreFew}
use Rattle.msdb_store.proofs.store.MsdbStore.new.Given as goal

-- the tables so far, with what is left, are all
abbrev pub invariant-loop-def : goal.invariant-loop-def
invariant-loop-def l =
    (map (λ t. t.fields) l.tables.items ++ map (λ d. d.fields) l.def-iterator.a.rest.now ≡ map (λ d. d.fields)
    l.fn.defs.msdbs)
    × (map (λ t. record { segments = t.segments.items }) l.tables.items ++ l.def-iterator.b.rest.items ≡ l.fn.msdbs)
    × (length l.def-iterator.a.rest.now ≡ length l.def-iterator.b.rest.items)
    × AreFew (map (λ t. record { segments = t.segments.items }) l.tables.items)
