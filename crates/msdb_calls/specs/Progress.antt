-- What contracts see of a transaction under way, as far as it has to do with main storage databases.
use Rattle.std.specs.Prelude.{◌≡◌, ℕ, ◌<◌, List, Some, IfSome, length, slice_get, unwrap_or}
use Rattle.std.specs.List.{AllByRecursion, AllZip, list_any}
use Rattle.fp_model.specs.declared.calls.Deferred.{Deferred}
use Rattle.fp_model.specs.declared.calls.Resource.{Resource}
use Rattle.fp_model.specs.declared.calls.Resource.TheVariants.{Segment}
use Rattle.fp_model.specs.declared.definitions.MsdbDef.{MsdbDef}
use Rattle.fp_model.specs.FitCalls.{FitsKey, IsFitDeferred}
use Rattle.fp_model.specs.MsdbCalls.{puts_or_drops}
use Rattle.fp_model.specs.Workspace.{MsdbPosition, Workspace, no_msdb_position}
use Rattle.segment_keys.specs.Keys.{is_among}

-- A position for each database, the deferred calls in call order, and the keys whose segments these insert or delete.
pub record MsdbProgress : Type 0 where
  pub positions : List MsdbPosition
  pub deferred : List Deferred
  pub changed : List Resource

-- as a part of all that the transaction keeps to itself
abbrev pub with_progress : MsdbProgress → Workspace → Workspace
with_progress work own = record own { msdbs = work.positions; deferred = work.deferred }

abbrev pub position_in : MsdbProgress → ℕ → MsdbPosition
position_in work msdb = unwrap_or (slice_get work.positions msdb) no_msdb_position

-- the segment found last has a key of the database's length
abbrev pub FitsPosition : MsdbDef → MsdbPosition → Type 0
FitsPosition def position = IfSome position.key (λ key. FitsKey key def)

-- the keys of a database that are marked are those whose segments the deferred calls insert or delete
abbrev pub AreMarked : MsdbDef → ℕ → MsdbProgress → Type 0
AreMarked def msdb work =
    (key : List ℕ) → is_among work.changed (Segment msdb key) ≡ list_any (puts_or_drops def msdb key) work.deferred

-- What is kept of one database: it has a position, whose key, if there is one, has the length of the database's keys;
-- and the keys that are changed are marked.
pub record FitsMsdb (def : MsdbDef) (msdb : ℕ) (work : MsdbProgress) : Type 0 where
  pub counted : msdb < length work.positions
  pub position : FitsPosition def (position_in work msdb)
  pub changes : AreMarked def msdb work

-- It is a transaction's under these definitions: a position for each database, deferred calls as fit calls leave them,
-- and the keys that those insert or delete.
pub record IsMsdbWorkOf (defs : List MsdbDef) (work : MsdbProgress) : Type 0 where
  pub positions : AllZip FitsPosition defs work.positions
  pub deferred : AllByRecursion (IsFitDeferred defs) work.deferred
  pub changes : (msdb : ℕ) (def : MsdbDef) → slice_get defs msdb ≡ Some def → AreMarked def msdb work
