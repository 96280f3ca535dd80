-- Runs: turns one after another, and the drain.
use Rattle.std.specs.Prelude.{◌≡◌, ℕ, List, [], ◌∷◌, ◌++◌, length, map, filter, fold, Bool, true, false, None}
use Rattle.std.specs.List.{list_all}
use Rattle.fp_model.specs.declared.events.Event.{Event}
use Rattle.fp_model.specs.declared.events.Event.TheVariants as event
use Rattle.fp_model.specs.State.{numbers_up}
use Rattle.fp_model.specs.History.{place_of}
use Rattle.fp_model.specs.Rules.{Rules}
use Rattle.fp_model.specs.Machine.{Region, Idle, Active, Machine}
use Rattle.fp_model.specs.Turns.{Environment, NoFault, DeviceFault, OutOfMemory, Turn}

-- A step of a run: the event, what befalls it, and the machine after it.
pub record RunStep : Type 0 where
  pub event : Event
  pub environment : Environment
  pub after : Machine

-- ---- what a list of steps says

abbrev pub step_events : List RunStep → List Event
step_events steps = map (λ step. step.event) steps

-- The steps take these events of a schedule, and leave those: none, unless the run ended early.
abbrev pub TakesOf : List Event → List RunStep → List Event → Type 0
TakesOf events steps left = events ≡ step_events steps ++ left

abbrev pub is_device_fault : Environment → Bool
is_device_fault NoFault = false
is_device_fault DeviceFault = true
is_device_fault OutOfMemory = false

-- how many of the steps a fault of the device befell
abbrev pub device_faults : List RunStep → ℕ
device_faults steps = length (filter (λ step. is_device_fault step.environment) steps)

-- the machine behind the last step
abbrev pub machine_after : Machine → List RunStep → Machine
machine_after m steps = fold (λ before step. step.after) m steps

module _ (rules : Rules) where
  -- Each step is a turn from where the one before it led, and the last leads to this machine.
  abbrev pub Runs : Machine → List RunStep → Machine → Type 0
  Runs m [] m2 = m2 ≡ m
  Runs m (step ∷ steps) m2 = Turn rules m step.event step.environment step.after × Runs step.after steps m2

  -- ---- the drain

  -- IN, each region in turn, LOG
  abbrev pub round : List Event
  round = event.In ∷ map event.Region (numbers_up (length rules.regions) 1) ++ event.Log ∷ []

  abbrev pub is_idle : Region → Bool
  is_idle Idle = true
  is_idle (Active t) = false

  abbrev pub is_empty : {X : Type 0} → List X → Bool
  is_empty [] = true
  is_empty (x ∷ xs) = false

  -- No line is left or held, no message is queued, no region is active, and no entry is unsealed.
  pub record IsDrained (m : Machine) : Type 0 where
    pub no_line : m.lines ≡ []
    pub no_held : m.held ≡ None
    pub no_message : list_all is_empty m.queues ≡ true
    pub no_active : list_all is_idle m.regions ≡ true
    pub no_unsealed : m.sealed ≡ place_of m.history

  -- rounds, until the machine is drained
  abbrev pub Drains : Machine → List (List RunStep) → Machine → Type 0
  Drains m [] m2 = IsDrained m × (m2 ≡ m)
  Drains m (steps ∷ rounds) m2 =
      (¬ IsDrained m)
      × (step_events steps ≡ round)
      × Runs m steps (machine_after m steps)
      × Drains (machine_after m steps) rounds m2

  -- a drain that ended early: whole rounds, and a first part of one more
  abbrev pub DrainsInPart : Machine → List (List RunStep) → List RunStep → Machine → Type 0
  DrainsInPart m [] part m2 = (¬ IsDrained m) × ((left : List Event) × TakesOf round part left × Runs m part m2)
  DrainsInPart m (steps ∷ rounds) part m2 =
      (¬ IsDrained m)
      × (step_events steps ≡ round)
      × Runs m steps (machine_after m steps)
      × DrainsInPart (machine_after m steps) rounds part m2
