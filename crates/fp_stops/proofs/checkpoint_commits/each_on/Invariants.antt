use Rattle.std.proofs.Common.{◌<◌, ◌^◌, length}
use Rattle.std.specs.List.{AllByRecursion}
use Rattle.msdb_store.specs.Store.{IsOf}
use Rattle.fp_stops.proofs.checkpoint_commits.each_on.Given as goal

-- the store stays one of the definitions
abbrev pub invariant-loop-number : goal.invariant-loop-number
invariant-loop-number l = record {
  of : IsOf l.defs.msdbs l.store;
  few : AllByRecursion (λ msdb. length msdb.segments < 2 ^ 32) l.store.msdbs;
}
