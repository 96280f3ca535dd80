-- What bodies and proofs need of Standing, beside what contracts say.
use Rattle.std.specs.Prelude.{◌≡◌, ℕ, ◌+◌, List, length}
use Rattle.fp_model.specs.declared.events.Event.{Event}
use Rattle.fp_model.specs.declared.definitions.Defs.{Defs}
use Rattle.fp_model.specs.Machine.{Machine}
use Rattle.fp_model.specs.Rules.{Rules}
use Rattle.fp_site.specs.Disk.{Disk}
use Rattle.message_lines.specs.Lines.{lines_given}
use Rattle.message_lines.specs.declared.lines.Lines.{Lines}
use Rattle.fp_core.specs.declared.engine.Engine.{Engine}
use Rattle.fp_core.specs.Draining.{IsReachedBy}
use Rattle.fp_core.specs.Standing.{Origin, StandsBeside}
use Rattle.schedule_runs.specs.Ways.{Comes}

module _ (origin : Origin) (defs : Defs) (rules : Rules) (events : List Event) (m : Machine) (old : Disk) where
  -- The run comes to a machine with these events left, and engine, site and source stand beside it. So many lines were
  -- read as the machine has fewer, and no data set but the log changed.
  pub record StandsOnWay (old_lines : Lines) (left : List Event) (new : Disk) (lines : Lines) (bytes : List ℕ)
      (engine : Engine) : Type 0 where
    pub here : Machine
    pub comes : Comes defs rules events m left here
    pub beside : StandsBeside origin new lines bytes engine here
    pub reached : IsReachedBy engine here
    pub given : lines_given lines + length here.lines ≡ lines_given old_lines + length m.lines
    pub others : (set : ℕ) → ¬ (set ≡ 0) → new.contents set ≡ old.contents set
