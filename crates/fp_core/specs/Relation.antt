-- What it is for the engine to stand for a machine of the table of turns.
use Rattle.std.specs.Prelude.{◌≡◌, ⊤, ℕ, suc, ◌+◌, ◌-◌, ◌≤◌, List, [], length, drop, map, option_map, sum_by, true, IfSome, Ok, Some, slice_get}
use Rattle.std.specs.List.{AllByRecursion, AllZip}
use Rattle.std.specs.VecDeque.{deque_capacity}
use Rattle.balancing.specs.Backlog.{AreSame}
use Rattle.ci_locks.specs.Standing.{Shows}
use Rattle.ci_locks.specs.Table.{standing}
use Rattle.dli_calls.specs.Progress.{IsWorkOf}
use Rattle.drain_laws.specs.Measure.{active_in}
use Rattle.fp_model.specs.declared.calls.Call.{Call}
use Rattle.fp_model.specs.declared.calls.Message.{Message}
use Rattle.fp_model.specs.declared.database.Db.{Db}
use Rattle.fp_model.specs.declared.definitions.Defs.{Defs}
use Rattle.fp_model.specs.declared.log.Entry.{Entry}
use Rattle.fp_model.specs.declared.log.Outcome.TheVariants as outcome
use Rattle.fp_model.specs.declared.scripts.Script.{Script}
use Rattle.fp_model.specs.Asking.{Asks, Replies, Rolls, full_cost, script_of}
use Rattle.fp_model.specs.FitCalls.{IsMsdbCall, are_fit}
use Rattle.fp_model.specs.Groups.{entries_of}
use Rattle.fp_model.specs.History.{states_of, place_of}
use Rattle.fp_model.specs.Items.{IsFit as IsFitItem, with_items}
use Rattle.fp_model.specs.Lasts.{format_at, lasts_of}
use Rattle.fp_model.specs.Machine as machine
use Rattle.fp_model.specs.Machine.{Transaction, Machine}
use Rattle.fp_model.specs.Messages.{message_of}
use Rattle.fp_model.specs.Product.{rules_of, groups_defined}
use Rattle.fp_model.specs.Rules.{Rules}
use Rattle.fp_model.specs.Settle.{resources}
use Rattle.fp_model.specs.Turns.{asks}
use Rattle.fp_model.specs.WellFormed.{AreDefs}
use Rattle.msdb_store.specs.Store.{IsOf}
use Rattle.sync_point.specs.Refusals.{refusal_room}
use Rattle.txn_machine.specs.Running.{IsAt, IsFit, WaitsFor}
use Rattle.txn_machine.specs.declared.program.Program.{Program}
use Rattle.fp_core.specs.declared.engine.Active.{Active}
use Rattle.fp_core.specs.declared.engine.Ahead.{Ahead}
use Rattle.fp_core.specs.declared.engine.Ahead.TheVariants as ahead
use Rattle.fp_core.specs.declared.engine.Engine.{Engine}
use Rattle.fp_core.specs.declared.engine.Owed.{Owed}
use Rattle.fp_core.specs.declared.engine.Region.{Region}
use Rattle.fp_core.specs.declared.engine.Region.TheVariants as region
use Rattle.fp_core.specs.Numbering.{last_kept, last_told}

-- ---- what the engine runs by

-- Definitions of main storage databases alone, and scripts that were read under them: their calls fit, and none makes
-- more than 10,000 of them.
pub record IsSetup (defs : Defs) (scripts : List Script) : Type 0 where
  pub defined : AreDefs defs
  pub no_dedbs : defs.dedbs ≡ []
  pub fit : AllByRecursion (λ script. are_fit defs script.statements ≡ true) scripts
  pub cheap : AllByRecursion (λ script. full_cost script.statements ≤ 10000) scripts

abbrev pub rules_in : Engine → Rules
rules_in engine = rules_of engine.defs.now engine.scripts.now.scripts

-- ---- one transaction

-- no longer than lines are read
abbrev pub IsShort : List ℕ → Type 0
IsShort line = length line ≤ 2100

-- in this format it is what its line says
abbrev pub IsRead : ℕ → Message → Type 0
IsRead format message = message_of format message.line ≡ Ok message

-- The call that it does next: the program waits for its answer.
pub record IsCallAhead (defs : Defs) (scripts : List Script) (program : Program) (t : Transaction) (call : Call)
    : Type 0 where
  pub asked : asks (rules_of defs scripts) t ≡ Asks call
  pub waits : WaitsFor call program
  pub fits : IsMsdbCall defs.msdbs call

-- what it does next is what its script asks
abbrev pub IsAhead : Defs → List Script → Program → Transaction → Ahead → Type 0
IsAhead defs scripts program t (ahead.Call call) = IsCallAhead defs scripts program t call
IsAhead defs scripts program t (ahead.Reply text segments) =
    (asks (rules_of defs scripts) t ≡ Replies text) × (segments ≡ resources t.point.own.deferred)
IsAhead defs scripts program t (ahead.Roll code) = asks (rules_of defs scripts) t ≡ Rolls code

-- The transaction of the code is that of the machine.
pub record IsTransaction (defs : Defs) (scripts : List Script) (active : Active) (t : Transaction) : Type 0 where
  pub from : active.from ≡ t.from
  pub message : active.message ≡ t.message
  pub short : IsShort t.message.line
  pub tries : active.tries ≡ t.tries
  -- what is kept of its number if it is refused for want of memory
  pub refusal : option_map last_kept active.refusal ≡ last_told t.message outcome.Memory []
  -- what its calls left
  pub own : active.work.own ≡ t.point.own
  pub notes : active.work.notes ≡ t.notes
  pub of : IsWorkOf defs active.work
  pub changes : t.point.own.changes ≡ []
  pub inserts : t.point.own.inserts ≡ []
  -- the program is where its script is after the answers
  pub script : Script
  pub named : script_of scripts t.message.tran ≡ Some script
  pub numbered : slice_get scripts active.program.number ≡ Some script
  pub at : IsAt defs script.statements t.message t.point.answers active.program
  pub fit : IsFit defs active.program
  -- what was worked out is what it does next
  pub ahead : IfSome active.ahead (IsAhead defs scripts active.program t)

abbrev pub IsRegion : Defs → List Script → Region → machine.Region → Type 0
IsRegion defs scripts region.Idle machine.Idle = ⊤
IsRegion defs scripts region.Idle (machine.Active t) = ⊥
IsRegion defs scripts (region.Active active) machine.Idle = ⊥
IsRegion defs scripts (region.Active active) (machine.Active t) = IsTransaction defs scripts active t

-- the message of a region at work is read in this format
abbrev pub IsReadIn : ℕ → machine.Region → Type 0
IsReadIn format machine.Idle = ⊤
IsReadIn format (machine.Active t) = IsRead format t.message

-- ---- messages that wait

-- A message that a region can take: it is read in this format, and names a script.
pub record IsTakeable (format : ℕ) (scripts : List Script) (message : Message) : Type 0 where
  pub short : IsShort message.line
  pub read : IsRead format message
  pub script : Script
  pub named : script_of scripts message.tran ≡ Some script

-- ---- entries

-- what is kept of an entry until its reply line is sent
abbrev pub owed_of : Entry → Owed
owed_of e = record { line = e.line; outcome = e.outcome; reply = e.reply }

-- an active region keeps room for the entry of its refusal
abbrev pub room_of : machine.Region → ℕ
room_of machine.Idle = 0
room_of (machine.Active t) = refusal_room t.message.line

-- An entry's items are fit, and make of the main storage databases before it those behind it.
pub record IsMade (defs : Defs) (before : Db) (e : Entry) (after : Db) : Type 0 where
  pub fit : AllByRecursion (IsFitItem defs) e.items
  pub made : with_items defs.msdbs before.msdbs e.items ≡ after.msdbs

-- the place of the first entry of this run
abbrev pub first_place : Machine → ℕ
first_place m = m.sealed - length (entries_of m.groups)

-- so is each entry of this run
abbrev pub AreMade : Defs → Machine → Type 0
AreMade defs m =
    (place : ℕ) (before after : Db) (e : Entry)
    → first_place m ≤ place
    → slice_get (states_of m.history) place ≡ Some before
    → slice_get m.history.entries place ≡ Some e
    → slice_get (states_of m.history) (suc place) ≡ Some after
    → IsMade defs before e after

-- ---- the engine

-- The engine stands for the machine: a fact for each part.
pub record StandsFor (engine : Engine) (m : Machine) : Type 0 where
  pub setup : IsSetup engine.defs.now engine.scripts.now.scripts
  -- lines, messages and terminals that wait
  pub held : engine.held ≡ m.held
  pub held_short : IfSome m.held IsShort
  pub queues : engine.queues.queues ≡ m.queues
  pub groups : length m.queues ≡ groups_defined engine.defs.now
  pub takeable : AllByRecursion (AllByRecursion (IsTakeable engine.format engine.scripts.now.scripts)) m.queues
  pub busy : AreSame engine.queues.busy m.busy
  -- regions and their locks
  pub regions : AllZip (IsRegion engine.defs.now engine.scripts.now.scripts) engine.regions m.regions
  pub numbers : length m.regions ≡ length engine.defs.now.regions
  pub locks : Shows (standing engine.locks) m.locks m.requests
  pub rows : length engine.locks ≡ length engine.regions
  -- the databases now
  pub of : IsOf engine.defs.now.msdbs engine.store
  pub msdbs : m.history.now.msdbs ≡ engine.store.msdbs
  -- entries, each with the state before it, and those that aren't sealed
  pub past : length m.history.past ≡ place_of m.history
  pub count : engine.log.sealed + length engine.log.unsealed ≡ place_of m.history
  pub sealed : engine.log.sealed ≡ m.sealed
  pub unsealed : engine.log.unsealed ≡ drop m.sealed m.history.entries
  pub owed : engine.owed.items ≡ map owed_of engine.log.unsealed
  pub made : AreMade engine.defs.now m
  -- lines are read in the log's format, and the last number of each terminal is kept as the entries give it
  pub format : format_at m.history.format m.history.entries ≡ engine.format
  pub read : AllByRecursion (IsReadIn engine.format) m.regions
  pub lasts : engine.lasts.terminals ≡ lasts_of m.history.format m.history.entries
  -- each transaction under way may use one more
  pub places : active_in m.regions ≤ engine.lasts.spare
  -- the log has room for a refusal of each transaction, and so has what is owed
  pub room : engine.room ≡ sum_by room_of m.regions
  pub spare : engine.room ≤ engine.log.spare
  pub slots : length engine.owed.items + active_in m.regions ≤ deque_capacity engine.owed
