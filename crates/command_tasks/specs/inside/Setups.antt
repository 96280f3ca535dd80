-- What bodies and proofs need of Setups, beside what contracts say.
use Rattle.std.specs.Prelude.{◌≡◌, ℕ, List, Err}
use Rattle.fp_schedule.specs.Schedule.{events_of}
use Rattle.fp_schedule.specs.declared.fault.ScheduleFault.{ScheduleFault}
use Rattle.fp_source.specs.declared.part.Part.{Part}
use Rattle.fp_source.specs.declared.part.Part.TheVariants as part
use Rattle.command_tasks.specs.Parts.{Job}
use Rattle.command_tasks.specs.declared.status.Status.{Status}
use Rattle.command_tasks.specs.declared.status.Status.TheVariants as status
use Rattle.command_words.specs.declared.words.Command.{Command}
use Rattle.command_words.specs.declared.words.Command.TheVariants.{Run}

-- a run's schedule is refused with this answer
abbrev pub IsRefusedSchedule : Command → Job → (Part → List ℕ) → Status → Type 0
IsRefusedSchedule Run job left answer =
    (fault : ScheduleFault) × (answer ≡ status.Schedule fault) × (events_of job.defs (left part.Schedule) ≡ Err fault)
IsRefusedSchedule _ job left answer = ⊥
