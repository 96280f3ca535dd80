-- What is known of the transactions that are followed.
use Rattle.std.specs.Prelude.{◌≡◌, ◌<◌, ⊤, List, length}
use Rattle.std.specs.List.{AllByRecursion}
use Rattle.dli_calls.specs.Progress.{IsWorkOf}
use Rattle.fp_core.specs.Relation.{IsSetup}
use Rattle.fp_model.specs.declared.definitions.Defs.{Defs}
use Rattle.fp_model.specs.declared.scripts.Script.{Script}
use Rattle.fp_trace.specs.declared.following.Follower.{Follower}
use Rattle.fp_trace.specs.declared.following.Seat.{Seat}
use Rattle.fp_trace.specs.declared.following.Seat.TheVariants as seat
use Rattle.fp_trace.specs.declared.following.Shadow.{Shadow}
use Rattle.msdb_store.specs.Store.{IsOf}
use Rattle.txn_machine.specs.Running.{IsFit}

-- a transaction of one of these scripts, which was shown whole segments
pub record IsFollowed (defs : Defs) (scripts : List Script) (follower : Follower) : Type 0 where
  pub number : follower.program.number < length scripts
  pub fit : IsFit defs follower.program
  pub work : IsWorkOf defs follower.work

abbrev pub IsSeat : Defs → List Script → Seat → Type 0
IsSeat defs scripts seat.Idle = ⊤
IsSeat defs scripts (seat.At follower) = IsFollowed defs scripts follower

-- databases and locks stand beside the transactions of 64 regions
pub record IsShadow (shadow : Shadow) : Type 0 where
  pub setup : IsSetup shadow.defs.now shadow.scripts.now.scripts
  pub store : IsOf shadow.defs.now.msdbs shadow.store
  pub locks : length shadow.locks ≡ 64
  pub seats : length shadow.seats ≡ 64
  pub each : AllByRecursion (IsSeat shadow.defs.now shadow.scripts.now.scripts) shadow.seats
