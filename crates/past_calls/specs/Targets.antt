-- Calls by the database that they name: which fit, what of others stays, and what is so of one kind alone.
use Rattle.std.specs.Prelude.{◌≡◌, ⊤, Option, None, option_map}
use Rattle.fp_model.specs.declared.calls.Call.{Call}
use Rattle.fp_model.specs.declared.calls.Resource.{Resource}
use Rattle.fp_model.specs.declared.database.Db.{Db}
use Rattle.fp_model.specs.Calls.{Target, OnMsdb, OnDedb, Nowhere}
use Rattle.fp_model.specs.DedbCalls.{dedb_need}
use Rattle.fp_model.specs.FitCalls.{FitsCall}
use Rattle.dedb_calls.specs.Calls.{FitsCallOn}
use Rattle.dedb_calls.specs.Progress.{GoesOn}
use Rattle.past_calls.specs.Alone.{held_alone}
use Rattle.past_calls.specs.Progress.{Progress, dedbs_in}

-- where it is a data entry database
abbrev pub IfDedb : Target → Type 0 → Type 0
IfDedb (OnMsdb def msdb) P = ⊤
IfDedb (OnDedb def dedb) P = P
IfDedb Nowhere P = ⊤

-- A call fits the database that it names. Of a data entry database it does so by the place that is held there.
abbrev pub FitsWork : Target → Progress → Call → Type 0
FitsWork (OnMsdb def msdb) work c = FitsCall c def
FitsWork (OnDedb def dedb) work c = FitsCallOn def dedb (dedbs_in work) c
FitsWork Nowhere work c = ⊥

-- the anchor of a data entry database whose roots a call needs first, where the transaction lacks them
abbrev pub anchor_needed : Target → Db → Progress → Call → Option Resource
anchor_needed (OnMsdb def msdb) now work c = None
anchor_needed (OnDedb def dedb) now work c =
    option_map (λ needed. needed.resource) (dedb_need def dedb now work.own (held_alone work.anchors) c)
anchor_needed Nowhere now work c = None

-- All that has to do with data entry databases stays.
pub record LeavesDedbs (old new : Progress) : Type 0 where
  pub positions : new.own.dedbs ≡ old.own.dedbs
  pub anchors : new.anchors ≡ old.anchors
  pub changes : new.own.changes ≡ old.own.changes
  pub inserts : new.own.inserts ≡ old.own.inserts

-- All that has to do with main storage databases stays.
pub record LeavesMsdbs (old new : Progress) : Type 0 where
  pub positions : new.own.msdbs ≡ old.own.msdbs
  pub deferred : new.own.deferred ≡ old.own.deferred
  pub changed : new.changed ≡ old.changed

-- what a call to one database leaves of those of the other kind, and of other data entry databases
abbrev pub LeavesOthers : Target → Progress → Progress → Type 0
LeavesOthers (OnMsdb def msdb) old new = LeavesDedbs old new
LeavesOthers (OnDedb def dedb) old new = LeavesMsdbs old new × GoesOn dedb (dedbs_in old) (dedbs_in new)
LeavesOthers Nowhere old new = old ≡ new
