-- How much a machine has left to do until it is drained.
use Rattle.std.specs.Prelude.{ℕ, suc, ◌+◌, ◌-◌, ◌*◌, List, [], ◌∷◌, length, if◌then◌else◌, Option, sum_by}
use Rattle.std.specs.Option.{option_map_or}
use Rattle.fp_model.specs.declared.calls.Message.{Message}
use Rattle.fp_model.specs.declared.calls.Mode.{Mode}
use Rattle.fp_model.specs.declared.calls.Resource.{Resource}
use Rattle.fp_model.specs.Workspace.{Workspace}
use Rattle.fp_model.specs.Answers.{Needed, serves}
use Rattle.fp_model.specs.Asking.{Ask}
use Rattle.fp_model.specs.Rules.{Rules}
use Rattle.fp_model.specs.History.{place_of}
use Rattle.fp_model.specs.Waiting.{Lock, held_as}
use Rattle.fp_model.specs.Machine.{Transaction, Region, Idle, Active, Machine}
use Rattle.fp_model.specs.Turns.{asks}

-- What transactions may still do, at most.
pub record Gauge : Type 0 where
  -- the locks that a workspace may come to ask for before its next answer, or at its end
  pub locks : Workspace → Ask → List Needed
  -- how many of them there are for a call, and how many more the workspace has queued for its end
  pub most : ℕ
  pub queued : Workspace → ℕ
  -- the calls of a script
  pub calls : ℕ

-- ---- weights: of all that may still be done, how many turns it takes at most

-- the locks of a list that aren't held strongly enough
abbrev pub unserved : (Resource → Option Mode) → List Needed → ℕ
unserved held [] = 0
unserved held (needed ∷ others) =
    if serves (held needed.resource) needed.mode then unserved held others else suc (unserved held others)

-- a call: its answer, and a lock at a time before it
abbrev pub call_weight : Gauge → ℕ
call_weight gauge = gauge.calls + gauge.most + 1

-- one try of a transaction, from its beginning to its entry
abbrev pub try_weight : Gauge → ℕ
try_weight gauge = gauge.calls * call_weight gauge + call_weight gauge + 2

module _ (rules : Rules) (gauge : Gauge) where
  -- what is left of this try of a transaction that holds these resources: answers, locks, its end and its entry
  abbrev pub left_of_try : (Resource → Option Mode) → Transaction → ℕ
  left_of_try held t =
      (gauge.calls - length t.point.answers) * call_weight gauge
      + unserved held (gauge.locks t.point.own (asks rules t)) + 2

  -- a region at work has the tries and what is left of this one, an idle region nothing
  abbrev pub region_weight : List Lock → ℕ → Region → ℕ
  region_weight locks region Idle = 0
  region_weight locks region (Active t) =
      (rules.tries - t.tries) * try_weight gauge + left_of_try (held_as locks region) t

  -- a message: all its tries, and to be taken
  abbrev pub message_weight : ℕ
  message_weight = rules.tries * try_weight gauge + try_weight gauge + 1

  -- a line that waits for its terminal is queued; one that isn't read may wait before
  abbrev pub held_weight : ℕ
  held_weight = message_weight + 1

  abbrev pub line_weight : ℕ
  line_weight = held_weight + 1

-- the sum over a list of a function of the place, from a place on, and of what stands there
abbrev pub sum_places : {X : Type 0} → (ℕ → X → ℕ) → ℕ → List X → ℕ
sum_places weight place [] = 0
sum_places weight place (x ∷ xs) = weight place x + sum_places weight (place + 1) xs

-- the messages that are queued
abbrev pub messages_in : List (List Message) → ℕ
messages_in queues = sum_by length queues

-- the entries that aren't sealed
abbrev pub unsealed_in : Machine → ℕ
unsealed_in m = place_of m.history - m.sealed

module _ (rules : Rules) (gauge : Gauge) where
  -- what is left besides the lines that aren't read: the line held, messages, transactions, entries to be sealed
  abbrev pub work_inside : Machine → ℕ
  work_inside m =
      option_map_or (λ line. held_weight rules gauge) m.held 0
      + messages_in m.queues * message_weight rules gauge
      + sum_places (region_weight rules gauge m.locks) 1 m.regions
      + unsealed_in m

  -- the same, and so many lines that may still be read
  abbrev pub work_with : ℕ → Machine → ℕ
  work_with lines m = lines * line_weight rules gauge + work_inside m

  -- all that is left
  abbrev pub work_left : Machine → ℕ
  work_left m = work_with (length m.lines) m

-- ---- what a program counts

-- how many lines are held
abbrev pub lines_held : Machine → ℕ
lines_held m = option_map_or (λ line. 1) m.held 0

abbrev pub one_if_active : Region → ℕ
one_if_active Idle = 0
one_if_active (Active t) = 1

-- how many regions are active
abbrev pub active_in : List Region → ℕ
active_in regions = sum_by one_if_active regions

-- No less than can be left to do, by counts alone: lines not read or held, messages queued, active regions, and entries
-- that aren't sealed.
abbrev pub work_of : (weight lines messages active unsealed : ℕ) → ℕ
work_of weight lines messages active unsealed = (lines + messages + active) * weight + unsealed
