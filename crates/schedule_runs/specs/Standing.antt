-- A run beside a site and a source: where it stands between steps, where it stops, and what a crash leaves of it.
use Rattle.std.specs.Prelude.{◌≡◌, ℕ, ◌+◌, List, [], length, Some}
use Rattle.fp_model.specs.declared.events.Event.{Event}
use Rattle.fp_model.specs.declared.events.Event.TheVariants as event
use Rattle.fp_model.specs.declared.definitions.Defs.{Defs}
use Rattle.fp_model.specs.Machine.{Idle, Machine, region_at}
use Rattle.fp_model.specs.Rules.{Rules}
use Rattle.fp_model.specs.Runs.{IsDrained}
use Rattle.fp_site.specs.Disk.{Disk, IsDurable, Snapshot}
use Rattle.message_lines.specs.Lines.{lines_given}
use Rattle.message_lines.specs.declared.lines.Lines.{Lines}
use Rattle.fp_core.specs.declared.engine.Engine.{Engine}
use Rattle.fp_core.specs.declared.stop.Stop.{Stop}
use Rattle.fp_core.specs.declared.stop.Stop.TheVariants as stops
use Rattle.fp_core.specs.Draining.{IsReachedBy}
use Rattle.fp_core.specs.Sparing.{IsSealing}
use Rattle.fp_core.specs.Standing.{IsLeft, IsStill, IsWithin, MayStop, Origin, StandsBeside, seals_of}
use Rattle.schedule_runs.specs.Ways.{Comes, next_event}

module _ (origin : Origin) (defs : Defs) (rules : Rules) (events : List Event) (m : Machine) (old : Disk) where
  -- The run is done: no event is left, and the machine is drained. Engine, site and source stand beside it, and no data
  -- set but the log changed.
  pub record IsDone (new : Disk) (lines : Lines) (bytes : List ℕ) (engine : Engine) : Type 0 where
    pub here : Machine
    pub comes : Comes defs rules events m [] here
    pub drained : IsDrained rules here
    pub beside : StandsBeside origin new lines bytes engine here
    pub others : (set : ℕ) → ¬ (set ≡ 0) → new.contents set ≡ old.contents set

  -- The run stopped in the step behind this machine, and the disk is one that this step may end with. Where it stopped
  -- for a line, that is the first one that the machine has not read. A turn of a region stops only where it is idle. A
  -- step that makes no calls on the site leaves the log at rest, with the machine's groups, and has sent nothing.
  pub record IsStopped (old_lines : Lines) (new : Disk) (stop : Stop) : Type 0 where
    pub left : List Event
    pub here : Machine
    pub comes : Comes defs rules events m left here
    pub may : MayStop (next_event left) here.held stop
    pub first : (number : ℕ) → stop ≡ stops.LineFault number
        → number + length here.lines ≡ lines_given old_lines + 1 + length m.lines
    pub idle : (region : ℕ) → next_event left ≡ event.Region region → region_at here region ≡ Some Idle
    pub within : IsWithin origin rules here (seals_of (next_event left) here) old new
    pub rest : ¬ IsSealing (next_event left) → IsDurable new 0
    pub still : ¬ IsSealing (next_event left) → IsStill origin new here

  -- A crash within the run left what one within the step behind this machine leaves.
  pub record IsLeftOnWay (s : Snapshot) : Type 0 where
    pub left : List Event
    pub here : Machine
    pub comes : Comes defs rules events m left here
    pub is_left : IsLeft origin rules here (seals_of (next_event left) here) old s
