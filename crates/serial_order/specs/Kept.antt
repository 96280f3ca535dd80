-- What each turn keeps.
use Rattle.std.specs.Prelude.{◌≡◌, ℕ, ◌+◌, ◌<◌, ◌≤◌, List, [], ◌++◌, length, sum_by, drop, Contains, true, if◌then◌else◌, Option, Some}
use Rattle.fp_model.specs.declared.database.Db.{Db}
use Rattle.fp_model.specs.declared.calls.Message.{Message}
use Rattle.fp_model.specs.declared.calls.Mode.{Mode}
use Rattle.fp_model.specs.declared.calls.Mode.TheVariants.{Share}
use Rattle.fp_model.specs.declared.calls.Resource.{Resource}
use Rattle.fp_model.specs.declared.log.Entry.{Entry}
use Rattle.fp_model.specs.declared.name.Name.{Name}
use Rattle.fp_model.specs.History.{History, Accepts, states_of, place_of}
use Rattle.fp_model.specs.Rules.{Rules}
use Rattle.fp_model.specs.Serial.{state_at, begun, goes}
use Rattle.fp_model.specs.SerialHistory.{NeverFalls, IsSerial}
use Rattle.fp_model.specs.Waiting.{Lock, held_as, waits, IsCycle}
use Rattle.fp_model.specs.Machine.{Transaction, Region, Idle, Active, Machine, region_at, is_among, terminal_in}
use Rattle.serial_order.specs.Laws.{View, IsCovered, IsSame}

-- ---- messages

-- The message is what its own line asks for behind the history.
abbrev pub IsRequest : Rules → History → Message → Type 0
IsRequest rules h message = rules.request_of h message.line ≡ Accepts message

-- so is every message that is queued
abbrev pub AreRequests : Rules → History → List (List Message) → Type 0
AreRequests rules h queues =
    (messages : List Message) (message : Message)
    → Contains queues messages → Contains messages message → IsRequest rules h message

-- ---- terminals

module _ (rules : Rules) (name : Name) where
  -- 1 where the line is of this terminal, else 0
  abbrev pub line_count : List ℕ → ℕ
  line_count line = if is_among (terminal_in (rules.terminal_of line)) name then 1 else 0

  abbrev pub region_count : Region → ℕ
  region_count Idle = 0
  region_count (Active t) = line_count t.message.line

  -- how many of its messages are queued
  abbrev pub queued_count : List (List Message) → ℕ
  queued_count queues = sum_by (λ messages. sum_by (λ message. line_count message.line) messages) queues

  -- how many of its transactions are active
  abbrev pub active_count : List Region → ℕ
  active_count regions = sum_by region_count regions

  -- how many of its entries aren't sealed
  abbrev pub unsealed_count : ℕ → List Entry → ℕ
  unsealed_count sealed entries = sum_by (λ e. line_count e.line) (drop sealed entries)

  -- how many of all three there are
  abbrev pub count : Machine → ℕ
  count m = queued_count m.queues + active_count m.regions + unsealed_count m.sealed m.history.entries

-- A terminal has at most one message queued, transaction active or entry unsealed, and is busy as long as it has one.
-- There are no fewer entries than are sealed.
pub record StandOnce (rules : Rules) (m : Machine) : Type 0 where
  pub once : (name : Name) → count rules name m ≤ 1
  pub is_busy : (name : Name) → 0 < count rules name m → is_among m.busy name ≡ true
  pub sealed : m.sealed ≤ place_of m.history

-- ---- transactions

-- What is so of a transaction that holds these resources, behind the history.
pub record GoesOn (rules : Rules) (view : View) (h : History)
    (held : Resource → Option Mode) (t : Transaction) : Type 0 where
  -- its message is still accepted
  pub is_request : IsRequest rules h t.message
  -- Alone on any state that has the same at what it holds, with its notes, it comes to where it is.
  pub comes_to : (db : Db) (states : List Db)
      → IsSame view held h.now db
      → ((place : ℕ) → place ≤ place_of h
      → state_at rules.start states place ≡ state_at rules.start (states_of h) place)
      → (n : ℕ) (rest : List ℕ)
      → goes rules db states t.message (length t.point.answers + n) (begun rules) (t.notes ++ rest)
      ≡ goes rules db states t.message n t.point rest
  pub few : length t.point.answers ≤ rules.budget t.message
  -- it began before its notes, and those were before now
  pub in_order : NeverFalls t.from t.notes (place_of h)
  pub covered : IsCovered view t.point.own held

-- two locks on one resource by different regions are both Share
abbrev pub AreApart : List Lock → Type 0
AreApart locks =
    (a b : Lock) → Contains locks a → Contains locks b
    → a.resource ≡ b.resource → ¬ (a.region ≡ b.region)
    → (a.mode ≡ Share) × (b.mode ≡ Share)

-- nobody waits for himself
abbrev pub HaveNoCycle : List Lock → List Lock → Type 0
HaveNoCycle requests locks = (cycle : List ℕ) → ¬ IsCycle (waits requests locks) cycle

-- ---- machines

-- The entries are a serial history of the machine's states. Messages that are queued are still accepted, and a
-- terminal has one at a time. Active regions are where they would be alone; locks and waits are sound.
pub record Kept (rules : Rules) (view : View) (m : Machine) : Type 0 where
  pub history : IsSerial rules m.history
  pub queued : AreRequests rules m.history m.queues
  pub terminals : StandOnce rules m
  pub apart : AreApart m.locks
  pub sound : (region : ℕ) (t : Transaction)
      → region_at m region ≡ Some (Active t)
      → GoesOn rules view m.history (held_as m.locks region) t
  pub no_cycle : HaveNoCycle m.requests m.locks

-- The entries are a serial history of the machine's states, queued messages are accepted, one at a time of a terminal,
-- no region is active, and nothing is locked.
pub record IsAtRest (rules : Rules) (m : Machine) : Type 0 where
  pub history : IsSerial rules m.history
  pub queued : AreRequests rules m.history m.queues
  pub terminals : StandOnce rules m
  pub no_active : (region : ℕ) (t : Transaction) → ¬ (region_at m region ≡ Some (Active t))
  pub no_locks : m.locks ≡ []
