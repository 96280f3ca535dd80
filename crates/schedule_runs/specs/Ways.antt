-- How far turns of the table come: over the events of a schedule, and then over rounds of the drain.
use Rattle.std.specs.Prelude.{◌≡◌, ℕ, ◌≤◌, List, [], ◌∷◌, length, filter, Some, slice_get}
use Rattle.fp_model.specs.declared.definitions.Defs.{Defs}
use Rattle.fp_model.specs.declared.events.Event.{Event}
use Rattle.fp_model.specs.declared.events.Event.TheVariants as event
use Rattle.fp_model.specs.declared.log.Entry.{Entry}
use Rattle.fp_model.specs.declared.log.Outcome.TheVariants as outcome
use Rattle.fp_model.specs.History.{History}
use Rattle.fp_model.specs.Machine.{Machine}
use Rattle.fp_model.specs.Rules.{Rules}
use Rattle.fp_model.specs.Runs.{IsDrained, is_device_fault, round}
use Rattle.fp_model.specs.Turns.{Environment, Turn}
use Rattle.fp_core.specs.Relation.{AreMade}
use Rattle.fp_core.specs.Turning.{IsExactTurn}

-- From these events and this machine turns, each exact, lead to that machine, and those events are left.
pub data Goes (defs : Defs) (rules : Rules) : List Event → Machine → List Environment → List Event → Machine
    → Type 0 where
  -- no turn yet
  here : {events : List Event} {m : Machine} → Goes defs rules events m [] events m
  -- the turn of the next event, and then others
  turn : {e : Event} {events left : List Event} {v : Environment} {vs : List Environment} {m mid m2 : Machine}
      → Turn rules m e v mid
      → IsExactTurn defs rules m e v mid
      → Goes defs rules events mid vs left m2
      → Goes defs rules (e ∷ events) m (v ∷ vs) left m2
  -- where no event is left and the machine isn't drained, those of a round of the drain
  again : {left : List Event} {vs : List Environment} {m m2 : Machine}
      → ¬ IsDrained rules m
      → Goes defs rules (round rules) m vs left m2
      → Goes defs rules [] m vs left m2

-- the event of the next step: where none is left, that of the IN with which a drain goes on, or ends
abbrev pub next_event : List Event → Event
next_event [] = event.In
next_event (e ∷ events) = e

-- how many turns a fault of the device befell
abbrev pub faults_in : List Environment → ℕ
faults_in environments = length (filter is_device_fault environments)

-- behind so many entries none lacks memory
abbrev pub NoneStarved : ℕ → History → Type 0
NoneStarved count h =
    (place : ℕ) (e : Entry) → count ≤ place → slice_get h.entries place ≡ Some e → ¬ (e.outcome ≡ outcome.Memory)

-- A run comes to here, with these events left: exact turns lead there, and no fault of the device befell one. The items
-- of each entry of the run are fit and make its next state.
pub record Comes (defs : Defs) (rules : Rules) (events : List Event) (m : Machine) (left : List Event)
    (here : Machine) : Type 0 where
  pub environments : List Environment
  pub goes : Goes defs rules events m environments left here
  pub calm : faults_in environments ≡ 0
  pub made : AreMade defs here
