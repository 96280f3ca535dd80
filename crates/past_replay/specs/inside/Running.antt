-- A transaction that is run again, on its way.
use Rattle.std.specs.Prelude.{◌≡◌, ℕ, suc, ◌+◌, ◌≤◌, List, Bool, true, false, length, drop, option_map, if◌then◌else◌, nat_lt, Option, Some, slice_get}
use Rattle.std.specs.List.{AllByRecursion}
use Rattle.dedb_calls.specs.Anchors.{Sees}
use Rattle.fp_exits.specs.Kinds.{Kinds}
use Rattle.fp_model.specs.declared.calls.Answer.{Answer}
use Rattle.fp_model.specs.declared.calls.Call.{Call}
use Rattle.fp_model.specs.declared.database.Db.{Db}
use Rattle.fp_model.specs.declared.database.Dedb.{Dedb}
use Rattle.fp_model.specs.declared.database.Msdb.{Msdb}
use Rattle.fp_model.specs.declared.definitions.Defs.{Defs}
use Rattle.fp_model.specs.declared.log.Outcome.TheVariants.{Roll}
use Rattle.fp_model.specs.declared.scripts.Script.{Script}
use Rattle.fp_model.specs.Asking.{Asks, ask, full_cost, script_of}
use Rattle.fp_model.specs.Calls.{database_of, target_of}
use Rattle.fp_model.specs.Commit.{first_full, settlement}
use Rattle.fp_model.specs.FitCalls.{FitsTarget, IsTied}
use Rattle.fp_model.specs.Product.{rules_of}
use Rattle.fp_model.specs.Rules.{Rules}
use Rattle.fp_model.specs.State.{areas_of, first_area_set}
use Rattle.fp_model.specs.Serial.{Alone, Ends, Stuck, goes, refused_as, serial_run, settled_as}
use Rattle.fp_model.specs.Workspace.{Workspace}
use Rattle.past_anchors.specs.Databases.{AreDedbsOf, state_of}
use Rattle.past_anchors.specs.Fullness.{full_as}
use Rattle.past_anchors.specs.declared.full.Full.{Full}
use Rattle.past_segments.specs.Pasts.{ArePastsOf}
use Rattle.past_calls.specs.Progress.{IsWorkOf, Progress}
use Rattle.past_calls.specs.declared.work.Parts.{Parts}
use Rattle.state_laws.specs.Workspaces.{FitsWorkspace}
use Rattle.txn_machine.specs.Running.{IsAt, IsFit, WaitsFor, types_shown}
use Rattle.past_replay.specs.declared.running.End.{End}
use Rattle.past_replay.specs.declared.running.End.TheVariants as ends
use Rattle.past_replay.specs.declared.running.Look.{Look}
use Rattle.past_replay.specs.declared.running.Rerun.{Rerun}
use Rattle.past_replay.specs.declared.running.Running.{Running}
use Rattle.past_replay.specs.Setup.{IsSetup}
use Rattle.past_replay.specs.States.{AreStatesOf, state_at}

abbrev pub rules_in : Rerun → Rules
rules_in it = rules_of it.defs.now it.scripts.now.scripts

-- the state at its place
abbrev pub now_of : Rerun → Db
now_of it = state_at it.place it.pasts.now it.anchors.now

-- It may be run again: what was read, the segments and the anchors of its databases, and notes of its place or earlier
-- ones.
pub record CanRerun (it : Rerun) (exits : Kinds) : Type 0 where
  pub setup : IsSetup it.defs.now exits it.scripts.now.scripts
  pub are : ArePastsOf it.defs.now.msdbs it.pasts.now
  pub shape : AreDedbsOf it.defs.now it.anchors.now
  pub notes : AllByRecursion (λ note. note ≤ it.place) it.notes.now

-- ---- what a transaction keeps

-- It is that of a transaction which made at most so many calls, and was shown these types last: its anchors are those of
-- the state, what its commit would do fits it, and what it holds is of the type shown.
pub record IsKept (it : Rerun) (count : ℕ) (shown : ℕ → Option ℕ) (work : Progress) : Type 0 where
  pub of : IsWorkOf it.defs.now work
  pub sees : Sees (now_of it) work.anchors
  pub fits : FitsWorkspace it.defs.now (now_of it) work.own
  pub tied : IsTied it.defs.now shown work.own
  pub few : length work.own.deferred ≤ count

-- ---- on its way

-- what running alone comes to
abbrev pub alone_on : Rerun → Db → List Db → Alone
alone_on it now states = serial_run (rules_in it) now states it.message.now it.notes.now

-- The transaction was answered so many calls, and running alone comes to what follows from where it is.
pub record IsUnderWay (it : Rerun) (count : ℕ) (running : Running) : Type 0 where
  pub answers : List Answer
  pub counted : length answers ≡ count
  pub kept : IsKept it count (types_shown running.program) running.work
  pub used : running.used ≤ length it.notes.now
  -- the program is where its script is after these answers
  pub script : Script
  pub named : script_of it.scripts.now.scripts it.message.now.tran ≡ Some script
  pub numbered : slice_get it.scripts.now.scripts running.program.number ≡ Some script
  pub at : IsAt it.defs.now script.statements it.message.now answers running.program
  pub fit : IsFit it.defs.now running.program
  -- so many calls it may still make
  pub left : ℕ
  pub budget : left + count ≡ full_cost script.statements
  pub goes_on : (now : Db) (states : List Db) → AreStatesOf it.pasts.now it.anchors.now it.place now states
      → alone_on it now states ≡ goes (rules_in it) now states it.message.now (suc left)
      (record { answers = answers; own = running.work.own }) (drop running.used it.notes.now)

-- It asks this call next, which fits its database by the type that was shown last of it.
pub record IsAsking (it : Rerun) (count : ℕ) (call : Call) (running : Running) : Type 0 where
  pub under : IsUnderWay it count running
  pub asked : ask it.defs.now under.script.statements it.message.now under.answers ≡ Asks call
  pub waits : WaitsFor call running.program
  pub fits : FitsTarget (target_of it.defs.now (database_of call)) (types_shown running.program (database_of call)) call

-- the place that an answer looks at without a hold, and how many notes are used behind it; none where no note is left
abbrev pub look_of : Rerun → ℕ → Bool → Option Look
look_of it used true = option_map (λ note. record { place = note; used = used + 1 }) (slice_get it.notes.now used)
look_of it used false = Some (record { place = it.place; used = used })

-- ---- its end

-- a workspace hands this in to its sync point
pub record HandsIn (parts : Parts) (own : Workspace) : Type 0 where
  pub deferred : own.deferred ≡ parts.deferred
  pub changes : own.changes ≡ parts.changes
  pub inserts : own.inserts ≡ parts.inserts

-- the first area that is too full for its sequential inserts is this one
abbrev pub IsFull : Defs → List Dedb → Workspace → Full → Type 0
IsFull defs dedbs own full = (msdbs : List Msdb)
    → first_full (state_of msdbs dedbs) own.inserts first_area_set (areas_of defs) ≡ Some (full_as full)

-- an end, where all notes are used
abbrev pub end_with : Rerun → ℕ → End → End
end_with it used end = if nat_lt used (length it.notes.now) then ends.Stuck else end

-- what running alone comes to at an end, where the transaction keeps this
abbrev pub ended : Rerun → Db → Workspace → End → Alone
ended it now own (ends.Replies reply) = Ends (settled_as now reply (settlement it.defs.now now own))
ended it now own (ends.Rolls code) = Ends (refused_as (Roll code) now)
ended it now own ends.Stuck = Stuck

-- Running alone comes to this end.
pub record IsEnd (it : Rerun) (running : Running) (end : End) : Type 0 where
  pub kept : IsKept it 10000 (types_shown running.program) running.work
  pub is : (now : Db) (states : List Db) → AreStatesOf it.pasts.now it.anchors.now it.place now states
      → alone_on it now states ≡ ended it now running.work.own end
