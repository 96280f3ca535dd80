-- What a call is answered, as the parts of the code hand it on: the answer, and what becomes of the transaction.
use Rattle.std.specs.Prelude.{◌≡◌, ⊤, ℕ, List, [], ◌∷◌, ◌++◌, true, false, Option, Some, None, slice_get, slice_set, unwrap_or}
use Rattle.fp_model.specs.declared.definitions.MsdbDef.{MsdbDef}
use Rattle.fp_model.specs.declared.calls.Answer.{Answer}
use Rattle.fp_model.specs.declared.calls.Call.{Call}
use Rattle.fp_model.specs.declared.calls.Call.TheVariants as call
use Rattle.fp_model.specs.declared.calls.Deferred.{Deferred}
use Rattle.fp_model.specs.declared.calls.Deferred.TheVariants as deferred
use Rattle.fp_model.specs.declared.calls.Resource.{Resource}
use Rattle.fp_model.specs.declared.calls.Resource.TheVariants.{Segment}
use Rattle.fp_model.specs.Answers.{Replied}
use Rattle.fp_model.specs.FitCalls.{FitsKey, FitsSegment, IsFsaList, IsShownOn}
use Rattle.fp_model.specs.MsdbCalls.{hold_ended, with_position}
use Rattle.fp_model.specs.State.{key_of}
use Rattle.fp_model.specs.Texts.{same_text, trimmed}
use Rattle.fp_model.specs.Workspace.{MsdbPosition, Workspace, no_msdb_position}
use Rattle.msdb_calls.specs.declared.reply.Change.{Change}
use Rattle.msdb_calls.specs.declared.reply.Change.TheVariants as change
use Rattle.msdb_calls.specs.declared.reply.Reply.{Reply}

-- ---- changes

-- the positions, with no segment held in a database
abbrev pub let_go : ℕ → List MsdbPosition → List MsdbPosition
let_go msdb positions =
    slice_set positions msdb (record (unwrap_or (slice_get positions msdb) no_msdb_position) { held = false })

-- the positions behind a change
abbrev pub positions_behind : ℕ → Change → List MsdbPosition → List MsdbPosition
positions_behind msdb change.Nothing positions = let_go msdb positions
positions_behind msdb (change.Found key hold) positions =
    slice_set positions msdb (record { key = Some key; held = hold })
positions_behind msdb (change.Queued d) positions = let_go msdb positions

-- and the queue
abbrev pub queue_behind : Change → List Deferred → List Deferred
queue_behind change.Nothing queue = queue
queue_behind (change.Found key hold) queue = queue
queue_behind (change.Queued d) queue = queue ++ d ∷ []

module _ (def : MsdbDef) (msdb : ℕ) where
  -- what a transaction keeps behind a change
  abbrev pub own_behind : Change → Workspace → Workspace
  own_behind change.Nothing own = hold_ended def msdb own
  own_behind (change.Found key hold) own = with_position def msdb (record { key = Some key; held = hold }) own
  own_behind (change.Queued d) own = record (hold_ended def msdb own) { deferred = own.deferred ++ d ∷ [] }

  abbrev pub replied_by : Reply → Workspace → Replied
  replied_by reply own = record { answer = reply.answer; own = own_behind reply.change own }

  -- a deferred call of the database, as fit calls leave it
  abbrev pub FitsQueue : Deferred → Type 0
  FitsQueue (deferred.Fld m key fsas) = (m ≡ msdb) × FitsKey key def × IsFsaList fsas
  FitsQueue (deferred.Repl m bytes) = (m ≡ msdb) × FitsSegment bytes def
  FitsQueue (deferred.Isrt m bytes) = (m ≡ msdb) × FitsSegment bytes def
  FitsQueue (deferred.Dlet m key) = (m ≡ msdb) × FitsKey key def

  abbrev pub FitsChange : Change → Type 0
  FitsChange change.Nothing = ⊤
  FitsChange (change.Found key hold) = FitsKey key def
  FitsChange (change.Queued d) = FitsQueue d

-- the key whose segment a deferred call inserts or deletes
abbrev pub mark_of : MsdbDef → Deferred → Option Resource
mark_of def (deferred.Fld m key fsas) = None
mark_of def (deferred.Repl m bytes) = None
mark_of def (deferred.Isrt m bytes) = Some (Segment m (key_of def.fields bytes))
mark_of def (deferred.Dlet m key) = Some (Segment m key)

abbrev pub mark_in : MsdbDef → Change → Option Resource
mark_in def change.Nothing = None
mark_in def (change.Found key hold) = None
mark_in def (change.Queued d) = mark_of def d

-- ---- answers

-- an answer that says that it found shows a segment of the database
abbrev pub ShowsSegment : MsdbDef → Answer → Type 0
ShowsSegment def answer = same_text (trimmed answer.status) [] ≡ true → IsShownOn answer.segment answer.bytes def

abbrev pub ShowsFound : MsdbDef → Call → Answer → Type 0
ShowsFound def (call.Get get hold db ssas) answer = ShowsSegment def answer
ShowsFound def (call.Fld db key fsas) answer = ⊤
ShowsFound def (call.Isrt db ssas bytes) answer = ⊤
ShowsFound def (call.Repl db bytes) answer = ⊤
ShowsFound def (call.Dlet db) answer = ⊤
