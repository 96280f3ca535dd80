-- The drain: rounds of IN, each region and LOG, until nothing is left.
use Rattle.std.specs.Prelude.{◌≡◌, ◌⊎◌, ℕ, ◌+◌, List, [], ◌∷◌, length, Some}
use Rattle.std.specs.List.{AllByRecursion}
use Rattle.drain_laws.specs.Live.{IsReached}
use Rattle.drain_laws.specs.ProductGauge.{gauge_of}
use Rattle.drain_laws.specs.Rounds.{GoesRounds}
use Rattle.fp_model.specs.declared.definitions.Defs.{Defs}
use Rattle.fp_model.specs.declared.events.Event.{Event}
use Rattle.fp_model.specs.declared.events.Event.TheVariants as events
use Rattle.fp_model.specs.Machine.{Idle, Machine, region_at}
use Rattle.fp_model.specs.Rules.{Rules}
use Rattle.fp_model.specs.Runs.{RunStep, TakesOf, Runs, IsDrained, device_faults, round, Drains}
use Rattle.fp_site.specs.Disk.{Disk, IsDurable, Snapshot}
use Rattle.message_lines.specs.Lines.{lines_given}
use Rattle.message_lines.specs.declared.lines.Lines.{Lines}
use Rattle.fp_core.specs.declared.engine.Engine.{Engine}
use Rattle.fp_core.specs.declared.stop.Stop.{Stop}
use Rattle.fp_core.specs.declared.stop.Stop.TheVariants as stops
use Rattle.fp_core.specs.Relation.{AreMade, StandsFor, rules_in}
use Rattle.fp_core.specs.Sparing.{IsSealing}
use Rattle.fp_core.specs.Standing.{IsLeft, IsStill, IsWithin, MayStop, Origin, StandsBeside, seals_of}
use Rattle.fp_core.specs.Turning.{AreExact, RoundsAreExact}

-- The engine stands for a machine that turns led to from rest.
pub record IsReachedBy (engine : Engine) (m : Machine) : Type 0 where
  pub stands : StandsFor engine m
  pub reached : IsReached (rules_in engine) (gauge_of engine.defs.now) m

-- no fault of the device befell these steps
abbrev pub AreCalm : List RunStep → Type 0
AreCalm steps = device_faults steps ≡ 0

-- A drain of the machine stands here, before this event: behind whole rounds, and a first part of one more. A round
-- goes on behind its IN only where something was left; the last IN of a drain finds nothing, and is left out. Each turn
-- is exact. The items of each entry of the run are fit and make its next state.
pub record IsInDrain (defs : Defs) (rules : Rules) (m here : Machine) (event : Event) : Type 0 where
  pub rounds : List (List RunStep)
  pub behind : Machine
  pub whole : GoesRounds rules m rounds behind
  pub part : List RunStep
  pub runs : Runs rules behind part here
  pub begun : ¬ (part ≡ []) → ¬ IsDrained rules behind
  pub left : List Event
  pub next : TakesOf (round rules) part (event ∷ left)
  pub calm : AllByRecursion AreCalm rounds × AreCalm part
  pub exact : RoundsAreExact defs rules m rounds × AreExact defs rules behind part
  pub made : AreMade defs here

-- A drain, each turn of which is exact, leads to a machine that is drained, and engine, site and source stand for it.
-- No
-- data set but the log changed.
pub record Drained (origin : Origin) (m : Machine) (old new : Disk) (lines : Lines) (left : List ℕ) (engine : Engine)
    : Type 0 where
  pub rounds : List (List RunStep)
  pub after : Machine
  pub drains : Drains (rules_in engine) m rounds after
  pub calm : AllByRecursion AreCalm rounds
  pub exact : RoundsAreExact (engine.defs.now) (rules_in engine) m rounds
  pub beside : StandsBeside origin new lines left engine after
  pub others : (set : ℕ) → ¬ (set ≡ 0) → new.contents set ≡ old.contents set

-- The drain stopped in a step, and the disk is one that this step may end with. Where it stopped for a line, that is
-- the first one that the machine has not read. A turn of a region stops only where it is idle. A step that makes no
-- calls
-- on the site leaves the log at rest, with the machine's groups, and has sent nothing.
pub record DrainStopped (origin : Origin) (defs : Defs) (rules : Rules) (m : Machine) (old_lines : Lines)
    (old new : Disk)
    (stop : Stop) : Type 0 where
  pub here : Machine
  pub event : Event
  pub in_drain : IsInDrain defs rules m here event
  pub may : MayStop event here.held stop
  pub first : (number : ℕ) → stop ≡ stops.LineFault number
      → number + length here.lines ≡ lines_given old_lines + 1 + length m.lines
  pub idle : (region : ℕ) → event ≡ events.Region region → region_at here region ≡ Some Idle
  pub within : IsWithin origin rules here (seals_of event here) old new
  pub rest : ¬ IsSealing event → IsDurable new 0
  pub still : ¬ IsSealing event → IsStill origin new here

-- A crash within the drain left what might have been left before it, or what a crash within one of its steps leaves.
pub record IsLeftByStep (origin : Origin) (defs : Defs) (rules : Rules) (m : Machine) (old : Disk) (s : Snapshot) : Type
    0 where
  pub here : Machine
  pub event : Event
  pub in_drain : IsInDrain defs rules m here event
  pub is_left : IsLeft origin rules here (seals_of event here) old s

abbrev pub IsLeftByDrain : Origin → Defs → Rules → Machine → Disk → Snapshot → Type 0
IsLeftByDrain origin defs rules m old s = old.may_leave s ⊎ IsLeftByStep origin defs rules m old s
