-- What runs from one place by the same events have in common, where the same befalls them: all but the items of
-- entries, and the cycles named.
use Rattle.std.specs.Prelude.{◌≡◌, ⊤, ℕ, ◌≤◌, List, [], ◌∷◌, length, map, Bool, true, false, nat_lt, Some}
use Rattle.std.specs.Option.{option_map_or}
use Rattle.fp_model.specs.declared.definitions.Defs.{Defs}
use Rattle.fp_model.specs.declared.events.Event.{Event}
use Rattle.fp_model.specs.declared.events.Event.TheVariants as event
use Rattle.fp_model.specs.declared.log.Entry.{Entry}
use Rattle.fp_model.specs.declared.log.Outcome.{Outcome}
use Rattle.fp_model.specs.declared.log.Outcome.TheVariants as outcome
use Rattle.fp_model.specs.Answers.{Needed}
use Rattle.fp_model.specs.Commit.{area_of_set}
use Rattle.fp_model.specs.History.{History}
use Rattle.fp_model.specs.Rules.{Rules}
use Rattle.fp_model.specs.Waiting.{Lock}
use Rattle.fp_model.specs.Machine.{Transaction, Active, Machine, region_at}
use Rattle.fp_model.specs.Turns.{Environment, asks, wanted, requests_with, refused_with}
use Rattle.fp_model.specs.Runs.{RunStep, machine_after}

-- ---- schedules

-- the area of a data set has a sequential part
abbrev pub is_purgeable : Defs → ℕ → Bool
is_purgeable defs set = option_map_or (λ area. nat_lt 0 area.def.capacity) (area_of_set defs set) false

-- an event that a schedule may have: its region is one of those that there are, and what it purges has a sequential
-- part
abbrev pub IsOfSchedule : Defs → Event → Type 0
IsOfSchedule defs (event.Region region) = (1 ≤ region) × (region ≤ length defs.regions)
IsOfSchedule defs (event.Purge set n) = is_purgeable defs set ≡ true
IsOfSchedule defs _ = ⊤

-- the events of steps, each with what befell it
abbrev pub step_parts : List RunStep → List (Event × Environment)
step_parts steps = map (λ step. (step.event, step.environment)) steps

-- ---- what is in common

-- an outcome without the cycle that it names
abbrev pub but_cycle : Outcome → Outcome
but_cycle (outcome.Deadlock cycle) = outcome.Deadlock []
but_cycle o = o

-- an outcome as it is
abbrev pub whole : Outcome → Outcome
whole o = o

-- an entry without items, and its outcome as it is seen
abbrev pub plain_entry : (Outcome → Outcome) → Entry → Entry
plain_entry seen e = record e { outcome = seen e.outcome; items = [] }

abbrev pub plain_history : (Outcome → Outcome) → History → History
plain_history seen h = record h { entries = map (plain_entry seen) h.entries }

-- a machine with its entries so
abbrev pub plain : (Outcome → Outcome) → Machine → Machine
plain seen m = record m {
  history = plain_history seen m.history;
  groups = map (λ group. map (plain_entry seen) group) m.groups;
}

abbrev pub plain_step : (Outcome → Outcome) → RunStep → RunStep
plain_step seen step = record step { after = plain seen step.after }

-- ---- cycles that a search finds

-- Where the step is a region's that ends by a Deadlock, the cycle is the one that the search finds by requests, with
-- that for the lock that is wanted, and locks.
abbrev pub StepNamesFound : (List Lock → List Lock → ℕ → List ℕ) → Rules → Machine → RunStep → Type 0
StepNamesFound search rules m step =
    (region : ℕ) (t : Transaction) (needed : Needed) (cycle : List ℕ)
    → step.event ≡ event.Region region
    → region_at m region ≡ Some (Active t)
    → wanted rules m region t (asks rules t) ≡ Some needed
    → step.after ≡ refused_with rules m region t (outcome.Deadlock cycle)
    → cycle ≡ search (requests_with rules m region needed) m.locks region

-- so do all steps of a run
abbrev pub StepsNameFound : (List Lock → List Lock → ℕ → List ℕ) → Rules → Machine → List RunStep → Type 0
StepsNameFound search rules m [] = ⊤
StepsNameFound search rules m (step ∷ steps) =
    StepNamesFound search rules m step × StepsNameFound search rules step.after steps

-- and all rounds of a drain
abbrev pub RoundsNameFound : (List Lock → List Lock → ℕ → List ℕ) → Rules → Machine → List (List RunStep) → Type 0
RoundsNameFound search rules m [] = ⊤
RoundsNameFound search rules m (steps ∷ rounds) =
    StepsNameFound search rules m steps × RoundsNameFound search rules (machine_after m steps) rounds
