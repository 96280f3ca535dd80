-- The table of turns: what each event of a schedule does to the machine.
use Rattle.std.specs.Prelude.{◌==◌, ◌≡◌, ⊤, ℕ, ◌+◌, ◌-◌, ◌<◌, ◌≤◌, List, [], ◌∷◌, ◌++◌, Bool, true, false, Option, Some, None, option_map, unwrap_or, slice_get, slice_set}
use Rattle.std.specs.List.{IsDistinct, list_any}
use Rattle.fp_model.specs.declared.database.Db.{Db}
use Rattle.fp_model.specs.declared.calls.Call.{Call}
use Rattle.fp_model.specs.declared.calls.Message.{Message}
use Rattle.fp_model.specs.declared.calls.Mode.{Mode}
use Rattle.fp_model.specs.declared.calls.Mode.TheVariants.{Exclusive}
use Rattle.fp_model.specs.declared.calls.Resource.{Resource}
use Rattle.fp_model.specs.declared.events.Event.{Event}
use Rattle.fp_model.specs.declared.events.Event.TheVariants as event
use Rattle.fp_model.specs.declared.log.Item.{Item}
use Rattle.fp_model.specs.declared.log.Outcome.{Outcome}
use Rattle.fp_model.specs.declared.log.Outcome.TheVariants as outcome
use Rattle.fp_model.specs.Answers.{Needed}
use Rattle.fp_model.specs.Asking.{Ask, Asks, Replies, Rolls}
use Rattle.fp_model.specs.Rules.{Rules}
use Rattle.fp_model.specs.History.{place_of}
use Rattle.fp_model.specs.Serial.{Ending, refused_as, settled_as, after_call, begun}
use Rattle.fp_model.specs.Waiting.{Lock, held_as, is_blocked, waits, IsCycle, without_region, with_request}
use Rattle.fp_model.specs.Machine.{Transaction, Region, Idle, Active, Machine, region_at, with_region, without_locks, with_entry_of, entry_of, entry_here, ended_with, taken_in, sealed_once, sealed_all}

-- what befalls a turn: nothing, a fault of the device, or want of memory
pub data Environment : Type 0 where
  NoFault : Environment
  DeviceFault : Environment
  OutOfMemory : Environment

-- What an active region does in a turn. The table leaves open only the items of an entry, and which cycle is kept.
pub data Act : Type 0 where
  Answers : Call → Act
  Gains : Needed → Act
  Waits : Needed → Act
  Deadlocks : Needed → (cycle : List ℕ) → Act
  Retries_at_cycle : Needed → (cycle : List ℕ) → Act
  Finishes : Ending → List Item → Act
  Retries_at_verify : Ending → Act

-- only what is done has items
abbrev pub AreItemsFor : Outcome → List Item → Type 0
AreItemsFor outcome.Done items = ⊤
AreItemsFor _ items = items ≡ []

-- an end that a further try may change
abbrev pub is_verify_failure : Outcome → Bool
is_verify_failure (outcome.Verify call fsa found) = true
is_verify_failure _ = false

module _ (rules : Rules) where
  abbrev pub holds : Machine → ℕ → Resource → Option Mode
  holds m region resource = held_as m.locks region resource

  -- the lock that the transaction needs next: for its call, or at its end
  abbrev pub wanted : Machine → ℕ → Transaction → Ask → Option Needed
  wanted m region t (Asks call) = rules.need m.history.now t.point.own (holds m region) call
  wanted m region t (Replies reply) =
      option_map (λ resource. record { resource = resource; mode = Exclusive })
      (rules.lack t.point.own (holds m region))
  wanted m region t (Rolls code) = None

  abbrev pub asks : Transaction → Ask
  asks t = rules.ask t.message t.point.answers

  -- how the transaction ends where its script is at its end
  abbrev pub ending_of : Db → Transaction → Ask → Option Ending
  ending_of now t (Asks call) = None
  ending_of now t (Replies reply) = Some (settled_as now reply (rules.settle now t.point.own))
  ending_of now t (Rolls code) = Some (refused_as (outcome.Roll code) now)

  abbrev pub as_lock : ℕ → Needed → Lock
  as_lock region needed = record { region = region; resource = needed.resource; mode = needed.mode }

  -- an unheld look notes how many entries stand
  abbrev pub noted : Bool → List ℕ → ℕ → List ℕ
  noted true notes place = notes ++ place ∷ []
  noted false notes place = notes

  -- the transaction after a call that is answered now
  abbrev pub with_answer : Machine → Transaction → Call → Transaction
  with_answer m t call = record t {
    point = after_call rules m.history.now m.history.now t.point call;
    notes = noted (rules.looks t.point.own call) t.notes (place_of m.history);
  }

  -- a message's transaction as its try of this number begins
  abbrev pub begun_in : Machine → Message → ℕ → Transaction
  begun_in m message tries =
      record { from = place_of m.history; message = message; point = begun rules; notes = []; tries = tries }

  -- The region gives up its locks and its request, and begins its message once more.
  abbrev pub tried_again : ℕ → Transaction → Machine → Machine
  tried_again region t m = with_region region (Active (begun_in m t.message (t.tries + 1))) (without_locks region m)

  -- The region's transaction is refused, and the state stays.
  abbrev pub refused_with : Machine → ℕ → Transaction → Outcome → Machine
  refused_with m region t outcome =
      ended_with region (entry_of t (refused_as outcome m.history.now) [] []) m.history.now m

  -- the requests with that of the region for a lock
  abbrev pub requests_with : Machine → ℕ → Needed → List Lock
  requests_with m region needed = with_request (as_lock region needed) m.requests

  -- the lock that the transaction needs next would close this cycle, the region first
  pub record ClosesCycle (m : Machine) (region : ℕ) (t : Transaction) (needed : Needed) (cycle : List ℕ) : Type 0 where
    pub wants : wanted m region t (asks t) ≡ Some needed
    pub closes : IsCycle (waits (requests_with m region needed) m.locks) (region ∷ cycle)
    pub distinct : IsDistinct ◌==◌ (region ∷ cycle)

  -- The transaction's script is at its end, all locks are had, and it ends so.
  pub record IsAtEnd (m : Machine) (region : ℕ) (t : Transaction) (ending : Ending) : Type 0 where
    pub lacks_none : wanted m region t (asks t) ≡ None
    pub ends : ending_of m.history.now t (asks t) ≡ Some ending

  -- From m the active region does this and leads to m2.
  abbrev pub Does : Machine → ℕ → Transaction → Act → Machine → Type 0
  Does m region t (Answers call) m2 =
      (asks t ≡ Asks call)
      × (wanted m region t (asks t) ≡ None)
      × (m2 ≡ with_region region (Active (with_answer m t call)) m)
  Does m region t (Gains needed) m2 =
      (wanted m region t (asks t) ≡ Some needed)
      × (is_blocked m.locks (as_lock region needed) ≡ false)
      × (m2 ≡ record m { locks = as_lock region needed ∷ m.locks; requests = without_region region m.requests })
  Does m region t (Waits needed) m2 =
      (wanted m region t (asks t) ≡ Some needed)
      × (is_blocked m.locks (as_lock region needed) ≡ true)
      × ((cycle : List ℕ) → ¬ IsCycle (waits (requests_with m region needed) m.locks) (region ∷ cycle))
      × (m2 ≡ record m { requests = requests_with m region needed })
  Does m region t (Deadlocks needed cycle) m2 =
      ClosesCycle m region t needed cycle
      × (rules.tries ≤ t.tries)
      × (m2 ≡ refused_with m region t (outcome.Deadlock (region ∷ cycle)))
  Does m region t (Retries_at_cycle needed cycle) m2 =
      ClosesCycle m region t needed cycle
      × (t.tries < rules.tries)
      × (m2 ≡ tried_again region t m)
  Does m region t (Finishes ending items) m2 =
      IsAtEnd m region t ending
      × (is_verify_failure ending.outcome ≡ true → rules.tries ≤ t.tries)
      × AreItemsFor ending.outcome items
      × (m2 ≡ ended_with region (entry_of t ending t.notes items) ending.next m)
  Does m region t (Retries_at_verify ending) m2 =
      IsAtEnd m region t ending
      × (is_verify_failure ending.outcome ≡ true)
      × (t.tries < rules.tries)
      × (m2 ≡ tried_again region t m)

  -- ---- a region's turn

  -- the place of the queue of a region's balancing group
  abbrev pub queue_of_region : ℕ → ℕ
  queue_of_region region = unwrap_or (slice_get rules.regions (region - 1)) 0 - 1

  abbrev pub messages_for : Machine → ℕ → List Message
  messages_for m region = unwrap_or (slice_get m.queues (queue_of_region region)) []

  -- the oldest message is taken, if there is one
  abbrev pub begins_in : Machine → ℕ → List Message → Machine
  begins_in m region [] = m
  begins_in m region (message ∷ messages) =
      with_region region (Active (begun_in m message 0))
      (record m { queues = slice_set m.queues (queue_of_region region) messages })

  -- An idle region takes a message, and has no turn where something befalls it. An active one acts, or is refused.
  abbrev pub RegionTurn : Machine → ℕ → Option Region → Environment → Machine → Type 0
  RegionTurn m region None environment m2 = ⊥
  RegionTurn m region (Some Idle) NoFault m2 = m2 ≡ begins_in m region (messages_for m region)
  RegionTurn m region (Some Idle) DeviceFault m2 = ⊥
  RegionTurn m region (Some Idle) OutOfMemory m2 = ⊥
  RegionTurn m region (Some (Active t)) NoFault m2 = (act : Act) × Does m region t act m2
  RegionTurn m region (Some (Active t)) DeviceFault m2 = m2 ≡ refused_with m region t outcome.Device
  RegionTurn m region (Some (Active t)) OutOfMemory m2 = m2 ≡ refused_with m region t outcome.Memory

  -- ---- PURGE

  -- some region holds an anchor of the area
  abbrev pub is_area_held : Machine → ℕ → Bool
  is_area_held m set = list_any (λ lock. rules.is_in_area set lock.resource) m.locks

  -- the entry Purge, with its items and the state that it makes
  pub record Purges (m : Machine) (set n : ℕ) (m2 : Machine) : Type 0 where
    pub items : List Item
    pub next : Db
    pub is_purged : rules.purged set n m.history.now ≡ Some next
    pub after : m2 ≡ with_entry_of (entry_here m (outcome.Purge set n) [] items) next m

  abbrev pub PurgeTurn : Machine → ℕ → ℕ → Bool → Machine → Type 0
  PurgeTurn m set n true m2 = m2 ≡ m
  PurgeTurn m set n false m2 = Purges m set n m2

  -- ---- all turns

  -- IN and LOG have no turn where something befalls them, and CKPT none under want of memory. A checkpoint isn't seen
  -- here.
  abbrev pub Turn : Machine → Event → Environment → Machine → Type 0
  Turn m event.In NoFault m2 = m2 ≡ taken_in rules m
  Turn m event.In DeviceFault m2 = ⊥
  Turn m event.In OutOfMemory m2 = ⊥
  Turn m (event.Region region) environment m2 = RegionTurn m region (region_at m region) environment m2
  Turn m event.Log NoFault m2 = m2 ≡ sealed_once rules m
  Turn m event.Log DeviceFault m2 = ⊥
  Turn m event.Log OutOfMemory m2 = ⊥
  Turn m event.Out environment m2 = m2 ≡ m
  Turn m event.Ckpt NoFault m2 = m2 ≡ sealed_all rules m
  Turn m event.Ckpt DeviceFault m2 = m2 ≡ sealed_all rules m
  Turn m event.Ckpt OutOfMemory m2 = ⊥
  Turn m (event.Purge set n) NoFault m2 = PurgeTurn m set n (is_area_held m set) m2
  Turn m (event.Purge set n) DeviceFault m2 = m2 ≡ m
  Turn m (event.Purge set n) OutOfMemory m2 = m2 ≡ m
