-- What bodies and proofs need of Standing, beside what contracts say.
use Rattle.std.specs.Prelude.{◌≡◌, ℕ, List}
use Rattle.fp_model.specs.declared.events.Event.{Event}
use Rattle.fp_model.specs.Machine.{Machine}
use Rattle.fp_site.specs.Disk.{Disk}
use Rattle.message_lines.specs.Lines.{lines_ahead}
use Rattle.message_lines.specs.declared.lines.Lines.{Lines}
use Rattle.fp_core.specs.declared.did.Did.{Did}
use Rattle.fp_core.specs.declared.engine.Engine.{Engine}
use Rattle.fp_core.specs.Turning.{Turned}
use Rattle.fp_core.specs.Standing.{Origin, StandsAt, Stepped}

-- ---- a step

-- The same beside a site, which stands for the machine behind the turn,
pub record SteppedAt (origin : Origin) (event : Event) (m : Machine) (disk : Disk) (engine : Engine) (did : Did)
    : Type 0 where
  pub turned : Turned event m engine did
  pub at : StandsAt origin disk engine turned.after

-- or beside a source, whose lines are those that the machine behind the turn has not read,
pub record SteppedBy (event : Event) (m : Machine) (old_lines new_lines : Lines) (left : List ℕ) (engine : Engine)
    (did : Did) : Type 0 where
  pub stepped : Stepped event m old_lines new_lines engine did
  pub lines_are : stepped.turned.after.lines ≡ lines_ahead new_lines left
