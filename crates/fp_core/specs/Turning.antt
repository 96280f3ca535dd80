-- One turn of the engine, and what is answered for it.
use Rattle.std.specs.Prelude.{◌≡◌, ⊤, ◌↔◌, ℕ, zero, suc, ◌-◌, List, [], ◌∷◌, length, if◌then◌else◌, IsTrue, Option, Some, None}
use Rattle.std.specs.List.{AllByRecursion, list_any}
use Rattle.std.specs.Option.{option_map_or}
use Rattle.ci_locks.specs.Cycles.{first_cycle}
use Rattle.fp_model.specs.declared.calls.Deferred.{Deferred}
use Rattle.fp_model.specs.declared.calls.Message.{Message}
use Rattle.fp_model.specs.declared.database.Db.{Db}
use Rattle.fp_model.specs.declared.database.Msdb.{Msdb}
use Rattle.fp_model.specs.declared.definitions.Defs.{Defs}
use Rattle.fp_model.specs.declared.events.Event.{Event}
use Rattle.fp_model.specs.declared.events.Event.TheVariants as event
use Rattle.fp_model.specs.declared.log.Item.{Item}
use Rattle.fp_model.specs.declared.log.Outcome.{Outcome}
use Rattle.fp_model.specs.declared.log.Outcome.TheVariants as outcome
use Rattle.fp_model.specs.History.{Request, Accepts, Refuses, place_of}
use Rattle.fp_model.specs.Items.{IsFit as IsFitItem, with_items}
use Rattle.fp_model.specs.ItemTargets.{is_ascending}
use Rattle.fp_model.specs.Machine.{Transaction, Region, Idle, Active, Machine, region_at, is_among, terminal_in, next_line, next_group}
use Rattle.fp_model.specs.Rules.{Rules}
use Rattle.fp_model.specs.Runs.{RunStep, machine_after}
use Rattle.fp_model.specs.Turns.{Environment, NoFault, DeviceFault, OutOfMemory, Act, Answers, Gains, Waits, Deadlocks, Retries_at_cycle, Finishes, Retries_at_verify, Does, Turn, messages_for, requests_with}
use Rattle.msdb_store.specs.Settling.{HasItem, IsNamed, IsSegmentItem}
use Rattle.fp_core.specs.declared.did.Did.{Did}
use Rattle.fp_core.specs.declared.did.Did.TheVariants as did
use Rattle.fp_core.specs.declared.engine.Engine.{Engine}
use Rattle.fp_core.specs.Relation.{StandsFor, rules_in}

-- ---- what is answered

-- for the end of a transaction
abbrev pub did_at_end : Outcome → Did
did_at_end outcome.Done = did.Committed
did_at_end _ = did.Refused

-- for what an active region did
abbrev pub did_of : Act → Did
did_of (Answers call) = did.Answered
did_of (Gains needed) = did.Gained
did_of (Waits needed) = did.Waited
did_of (Deadlocks needed cycle) = did.Refused
did_of (Retries_at_cycle needed cycle) = did.Retried
did_of (Finishes ending items) = did_at_end ending.outcome
did_of (Retries_at_verify ending) = did.Retried

-- for an idle region, whose group has these messages
abbrev pub did_take : List Message → Did
did_take [] = did.Nothing
did_take (message ∷ messages) = did.Took

-- for what a line asks for
abbrev pub did_for : Request → Did
did_for (Accepts message) = did.Queued
did_for (Refuses outcome) = did.Refused

-- for so many entries that were sealed
abbrev pub did_seal : ℕ → Did
did_seal zero = did.Nothing
did_seal (suc n) = did.Sealed (suc n)

module _ (rules : Rules) where
  -- for a line, which waits while its terminal does
  abbrev pub did_with : Machine → List ℕ → Did
  did_with m line =
      if list_any (is_among m.busy) (terminal_in (rules.terminal_of line)) then did.Held
      else did_for (rules.request_of m.history line)

-- ---- what an act leaves open

-- The items of an entry that is done are those of its queue: one of each segment that a call names, ascending. They are
-- fit, and make of the databases before it those behind it.
pub record AreItemsOf (defs : Defs) (deferred : List Deferred) (before after : List Msdb) (items : List Item)
    : Type 0 where
  pub kinds : AllByRecursion IsSegmentItem items
  pub in_order : IsTrue (is_ascending items)
  pub keys : (number : ℕ) (key : List ℕ) → HasItem items number key ↔ IsNamed defs.msdbs deferred number key
  pub fit : AllByRecursion (IsFitItem defs) items
  pub made : with_items defs.msdbs before items ≡ after

module _ (defs : Defs) (rules : Rules) where
  -- only what is done has items
  abbrev pub HasItsItems : Machine → Transaction → Outcome → Db → List Item → Type 0
  HasItsItems m t outcome.Done next items =
      AreItemsOf defs t.point.own.deferred m.history.now.msdbs next.msdbs items
  HasItsItems m t _ next items = ⊤

  -- The table leaves open which cycle an act names, and with which items a transaction ends: it is the first cycle in
  -- the order of words, and the items are the transaction's.
  abbrev pub IsExact : Machine → ℕ → Transaction → Act → Type 0
  IsExact m region t (Deadlocks needed cycle) =
      region ∷ cycle ≡ first_cycle (length rules.regions) (requests_with rules m region needed) m.locks region
  IsExact m region t (Finishes ending items) = HasItsItems m t ending.outcome ending.next items
  IsExact m region t _ = ⊤

  -- so is the act of a region at work that nothing befalls
  abbrev pub IsExactOfRegion : Machine → ℕ → Option Region → Environment → Machine → Type 0
  IsExactOfRegion m region None environment m2 = ⊤
  IsExactOfRegion m region (Some Idle) environment m2 = ⊤
  IsExactOfRegion m region (Some (Active t)) NoFault m2 =
      (act : Act) × Does rules m region t act m2 × IsExact m region t act
  IsExactOfRegion m region (Some (Active t)) DeviceFault m2 = ⊤
  IsExactOfRegion m region (Some (Active t)) OutOfMemory m2 = ⊤

  -- A turn is exact: nothing of it is left open. A schedule without areas has no PURGE.
  abbrev pub IsExactTurn : Machine → Event → Environment → Machine → Type 0
  IsExactTurn m (event.Region region) environment m2 = IsExactOfRegion m region (region_at m region) environment m2
  IsExactTurn m (event.Purge set n) environment m2 = ⊥
  IsExactTurn m _ environment m2 = ⊤

  -- so is each step of a run,
  abbrev pub AreExact : Machine → List RunStep → Type 0
  AreExact m [] = ⊤
  AreExact m (step ∷ steps) = IsExactTurn m step.event step.environment step.after × AreExact step.after steps

  -- and of each round of a drain
  abbrev pub RoundsAreExact : Machine → List (List RunStep) → Type 0
  RoundsAreExact m [] = ⊤
  RoundsAreExact m (steps ∷ rounds) = AreExact m steps × RoundsAreExact (machine_after m steps) rounds

  abbrev pub IsDidOfRegion : Machine → ℕ → Option Region → Environment → Machine → Did → Type 0
  IsDidOfRegion m region None environment m2 given = ⊥
  IsDidOfRegion m region (Some Idle) environment m2 given = given ≡ did_take (messages_for rules m region)
  IsDidOfRegion m region (Some (Active t)) NoFault m2 given =
      (act : Act) × Does rules m region t act m2 × IsExact m region t act × (given ≡ did_of act)
  IsDidOfRegion m region (Some (Active t)) DeviceFault m2 given = given ≡ did.Refused
  IsDidOfRegion m region (Some (Active t)) OutOfMemory m2 given = given ≡ did.Refused

  -- what is answered for a turn from m to m2, by its case of the table; a schedule without areas has no PURGE
  abbrev pub IsDid : Machine → Event → Environment → Machine → Did → Type 0
  IsDid m event.In environment m2 given = given ≡ option_map_or (did_with rules m) (next_line m) did.Nothing
  IsDid m (event.Region region) environment m2 given =
      IsDidOfRegion m region (region_at m region) environment m2 given
  IsDid m event.Log environment m2 given = given ≡ did_seal (length (next_group rules m))
  IsDid m event.Out environment m2 given = given ≡ did.Nothing
  IsDid m event.Ckpt environment m2 given = given ≡ did_seal (place_of m.history - m.sealed)
  IsDid m (event.Purge set n) environment m2 given = ⊥

-- ---- a turn

-- A turn of the table leads from m to a machine that the engine stands for, and this is answered. No call on a device
-- is made in it that could befall a transaction.
pub record Turned (event : Event) (m : Machine) (engine : Engine) (given : Did) : Type 0 where
  pub after : Machine
  pub environment : Environment
  pub turn : Turn (rules_in engine) m event environment after
  pub is_did : IsDid engine.defs.now (rules_in engine) m event environment after given
  pub no_device : ¬ (environment ≡ DeviceFault)
  pub stands : StandsFor engine after
