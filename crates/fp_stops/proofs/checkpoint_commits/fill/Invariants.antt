use Rattle.std.proofs.Common.{◌<◌, ◌^◌, length}
use Rattle.std.specs.List.{AllByRecursion}
use Rattle.msdb_store.specs.Store.{IsOf}
use Rattle.fp_stops.proofs.checkpoint_commits.fill.Given as goal

-- the store stays one of the definitions
abbrev pub invariant-loop-key : goal.invariant-loop-key
invariant-loop-key l = record {
  of : IsOf l.defs.msdbs l.store;
  few : AllByRecursion (λ msdb. length msdb.segments < 2 ^ 32) l.store.msdbs;
}
