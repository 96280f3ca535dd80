-- What contracts see of a transaction under way.
use Rattle.std.specs.Prelude.{ℕ, ◌≡◌, List, Some, slice_get}
use Rattle.std.specs.List.{AllByRecursion, AllZip}
use Rattle.fp_model.specs.declared.definitions.Defs.{Defs}
use Rattle.fp_model.specs.declared.definitions.MsdbDef.{MsdbDef}
use Rattle.fp_model.specs.declared.calls.Resource.{Resource}
use Rattle.fp_model.specs.declared.calls.Resource.TheVariants.{Segment}
use Rattle.fp_model.specs.FitCalls.{IsFitDeferred}
use Rattle.fp_model.specs.MsdbCalls.{is_put_or_dropped}
use Rattle.fp_model.specs.Workspace.{Workspace}
use Rattle.segment_keys.specs.Keys.{is_among}
use Rattle.dedb_calls.specs.Anchors.{changes_in}
use Rattle.dedb_calls.specs.Progress.{DedbProgress, IsDedbWorkOf}
use Rattle.dedb_calls.specs.declared.anchors.HeldAnchor.{HeldAnchor}
use Rattle.msdb_calls.specs.Progress.{FitsPosition}

-- What it keeps to itself, the anchors that it holds with their roots as it sees them, the keys of main storage
-- databases whose segments its queue inserts or deletes, and its notes: how many entries stood at each unheld look,
-- oldest first.
pub record Progress : Type 0 where
  pub own : Workspace
  pub anchors : List HeldAnchor
  pub changed : List Resource
  pub notes : List ℕ

-- as far as it has to do with data entry databases
abbrev pub dedbs_in : Progress → DedbProgress
dedbs_in work = record { positions = work.own.dedbs; anchors = work.anchors; inserts = work.own.inserts }

-- It is a transaction's under these definitions: a position for each main storage database, deferred calls as fit calls
-- leave them, the keys that those insert or delete, what it keeps of data entry databases, and the changes of the
-- anchors that it holds.
pub record IsWorkOf (defs : Defs) (work : Progress) : Type 0 where
  pub positions : AllZip FitsPosition defs.msdbs work.own.msdbs
  pub deferred : AllByRecursion (IsFitDeferred defs.msdbs) work.own.deferred
  pub changes : (msdb : ℕ) (def : MsdbDef) → slice_get defs.msdbs msdb ≡ Some def → (key : List ℕ)
      → is_among work.changed (Segment msdb key) ≡ is_put_or_dropped def msdb work.own key
  pub dedbs : IsDedbWorkOf defs.dedbs (dedbs_in work)
  pub edits : work.own.changes ≡ changes_in work.anchors
