-- What the end of the drain needs: of the rules, and of the machine.
use Rattle.std.specs.Prelude.{◌≡◌, ℕ, suc, ◌+◌, ◌-◌, ◌<◌, ◌≤◌, List, length, true, false, Option, Some}
use Rattle.std.specs.List.{Contains}
use Rattle.fp_model.specs.declared.database.Db.{Db}
use Rattle.fp_model.specs.declared.calls.Call.{Call}
use Rattle.fp_model.specs.declared.calls.Message.{Message}
use Rattle.fp_model.specs.declared.calls.Mode.{Mode}
use Rattle.fp_model.specs.declared.calls.Mode.TheVariants.{Exclusive}
use Rattle.fp_model.specs.declared.calls.Resource.{Resource}
use Rattle.fp_model.specs.declared.name.Name.{Name}
use Rattle.fp_model.specs.Workspace.{Workspace}
use Rattle.fp_model.specs.Answers.{Needed, serves}
use Rattle.fp_model.specs.Asking.{Ask, Asks, Replies}
use Rattle.fp_model.specs.History.{History, Accepts, place_of}
use Rattle.fp_model.specs.Rules.{Rules}
use Rattle.fp_model.specs.Waiting.{Lock}
use Rattle.fp_model.specs.Machine.{Transaction, Active, Machine, at_rest, region_at, is_among}
use Rattle.fp_model.specs.Turns.{queue_of_region}
use Rattle.fp_model.specs.Runs.{RunStep, Runs}
use Rattle.serial_order.specs.Kept.{count, HaveNoCycle}
use Rattle.drain_laws.specs.Measure.{Gauge}

-- ---- of the rules

-- a lock that is among these, and isn't held strongly enough
pub record IsStillNeeded (locks : List Needed) (held : Resource → Option Mode) (needed : Needed) : Type 0 where
  pub is_among : Contains locks needed
  pub is_unserved : serves (held needed.resource) needed.mode ≡ false

-- a region, of those that there are, takes from the queue
pub record IsServed (rules : Rules) (queue : ℕ) : Type 0 where
  pub place : ℕ
  pub is_there : place < length rules.regions
  pub takes : queue_of_region rules (suc place) ≡ queue

-- What the end of the drain needs of the rules.
pub record EndLaws (rules : Rules) (gauge : Gauge) : Type 0 where
  -- a group of entries has at least one
  pub seals : 1 ≤ rules.log_group
  -- each queue has a region, and each message a queue
  pub served : (queue : ℕ) → queue < rules.group_count → IsServed rules queue
  pub routed : (h : History) (line : List ℕ) (message : Message)
      → rules.request_of h line ≡ Accepts message
      → rules.group_of message - 1 < rules.group_count
  -- a script makes so many calls
  pub calls : (message : Message) → rules.budget message ≤ gauge.calls
  -- a lock that is wanted is one of those foreseen, and isn't held strongly enough
  pub wants : (db : Db) (own : Workspace) (held : Resource → Option Mode) (call : Call) (needed : Needed)
      → rules.need db own held call ≡ Some needed
      → IsStillNeeded (gauge.locks own (Asks call)) held needed
  pub lacks : (own : Workspace) (held : Resource → Option Mode) (reply : List ℕ) (resource : Resource)
      → rules.lack own held ≡ Some resource
      → IsStillNeeded (gauge.locks own (Replies reply)) held (record { resource = resource; mode = Exclusive })
  -- there are few of them: for a call a fixed number, at the end one for each call before
  pub many : (own : Workspace) (ask : Ask) → length (gauge.locks own ask) ≤ gauge.most + gauge.queued own
  pub begins : gauge.queued rules.fresh ≡ 0
  pub queues : (db visible : Db) (own : Workspace) (call : Call)
      → gauge.queued (rules.reply_to db visible own call).own ≤ gauge.queued own + 1

-- ---- of the machine

-- the region is at work
pub record IsAtWork (m : Machine) (region : ℕ) : Type 0 where
  pub t : Transaction
  pub stands : region_at m region ≡ Some (Active t)

-- Nothing waits for what can't come: each lock has a region that will give it up, each queue can be served, and each
-- busy terminal has something that will be answered.
pub record IsLive (rules : Rules) (gauge : Gauge) (m : Machine) : Type 0 where
  -- as many regions and queues as the rules say
  pub regions : length m.regions ≡ length rules.regions
  pub queues : length m.queues ≡ rules.group_count
  -- who holds a lock is at work
  pub holders : (lock : Lock) → Contains m.locks lock → IsAtWork m lock.region
  -- a busy terminal has a message queued, a transaction active or an entry unsealed
  pub waits : (name : Name) → is_among m.busy name ≡ true → 0 < count rules name m
  -- a transaction has queued no more for its end than it had answers
  pub few : (region : ℕ) (t : Transaction)
      → region_at m region ≡ Some (Active t)
      → gauge.queued t.point.own ≤ length t.point.answers

-- What the drain needs of the order, also where the entries are no serial history.
pub record IsInOrder (rules : Rules) (m : Machine) : Type 0 where
  -- no more entries are sealed than there are
  pub sealed : m.sealed ≤ place_of m.history
  -- nobody waits for himself
  pub no_cycle : HaveNoCycle m.requests m.locks
  -- a transaction has asked no more than its script may
  pub within : (region : ℕ) (t : Transaction)
      → region_at m region ≡ Some (Active t)
      → length t.point.answers ≤ rules.budget t.message

-- What is so of each machine that turns lead to from rest, whatever its history: it is in order, and nothing waits for
-- what can't come.
pub record IsReached (rules : Rules) (gauge : Gauge) (m : Machine) : Type 0 where
  pub in_order : IsInOrder rules m
  pub live : IsLive rules gauge m

-- A run led to the machine, from one at rest behind any history.
pub record IsFromRest (rules : Rules) (m : Machine) : Type 0 where
  pub lines : List (List ℕ)
  pub start : History
  pub steps : List RunStep
  pub runs : Runs rules (at_rest rules lines start) steps m
