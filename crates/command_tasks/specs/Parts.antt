-- What the parts of a source come to: a job, or the first reason why there is none.
use Rattle.std.specs.Prelude.{◌≡◌, ⊤, ℕ, List, length, Bool, ◌==◌, if◌then◌else◌, Result, Ok, Err}
use Rattle.fp_defs.specs.Exits.{defs_for}
use Rattle.def_tables.specs.declared.fault.DefsFault.{DefsFault}
use Rattle.fp_exits.specs.Kinds.{Kinds}
use Rattle.fp_model.specs.LogText.{Front}
use Rattle.log_groups.specs.Images.{in_format}
use Rattle.fp_model.specs.Product.{rules_of}
use Rattle.fp_model.specs.Recovery.{front_of}
use Rattle.fp_model.specs.Rules.{Rules}
use Rattle.fp_model.specs.declared.definitions.Defs.{Defs}
use Rattle.fp_model.specs.declared.events.Event.{Event}
use Rattle.fp_model.specs.declared.scripts.Script.{Script}
use Rattle.fp_schedule.specs.Schedule.{events_of}
use Rattle.fp_schedule.specs.declared.fault.ScheduleFault.{ScheduleFault}
use Rattle.fp_source.specs.declared.part.Part.{Part}
use Rattle.fp_source.specs.declared.part.Part.TheVariants as part
use Rattle.command_tasks.specs.declared.status.Status.{Status}
use Rattle.command_tasks.specs.declared.status.Status.TheVariants as status
use Rattle.command_words.specs.declared.words.Command.{Command}
use Rattle.command_words.specs.declared.words.Command.TheVariants.{Run}
use Rattle.txn_lang.specs.Grammar.{AreScriptsOf, HasFault}
use Rattle.txn_lang.specs.declared.fault.ScriptFault.{ScriptFault}

-- definitions and scripts, and the text of the scripts
pub record Job : Type 0 where
  pub defs : Defs
  pub scripts : List Script
  pub scripts_text : List ℕ

-- the front of a log that is made for them: in format 2, in which messages may have numbers
abbrev pub front_for : Job → Front
front_for job = front_of 2 job.defs job.scripts_text

-- that of a log of theirs in a format
abbrev pub front_in : ℕ → Job → Front
front_in format job = in_format format (front_for job)

-- the rules by which they run
abbrev pub rules_for : Job → Rules
rules_for job = rules_of job.defs job.scripts

-- whether definitions are built: they have no data entry database
abbrev pub are_built : Defs → Bool
are_built defs = length defs.dedbs == 0

-- what was read, where it is built
abbrev pub only_built : Result Defs DefsFault → Result Defs Status
only_built (Ok defs) = if are_built defs then Ok defs else Err (status.NotBuilt part.Definitions)
only_built (Err fault) = Err (status.Definitions fault)

-- the definitions that a text is for an installation with these kinds of exit, or the answer that it has instead
unfoldable pub definitions_in : Kinds → List ℕ → Result Defs Status
definitions_in kinds text = only_built (defs_for kinds text)

-- the parts are this job
pub record IsJob (kinds : Kinds) (left : Part → List ℕ) (job : Job) : Type 0 where
  pub definitions : definitions_in kinds (left part.Definitions) ≡ Ok job.defs
  pub text : job.scripts_text ≡ left part.Scripts
  pub scripts : AreScriptsOf job.defs job.scripts_text job.scripts

-- the schedule has these events
abbrev pub HasEvents : Job → (Part → List ℕ) → List Event → Type 0
HasEvents job left events = events_of job.defs (left part.Schedule) ≡ Ok events

-- what a command reads of a job's schedule: a run its events
abbrev pub HasSchedule : Command → Job → (Part → List ℕ) → Type 0
HasSchedule Run job left = (events : List Event) × HasEvents job left events
HasSchedule _ job left = ⊤

-- The parts aren't what a command asks for, and this is the answer: that of the definitions, or behind good ones the
-- first fault of the scripts, or of a run's schedule behind both.
pub data Refuses (kinds : Kinds) (left : Part → List ℕ) : Command → Status → Type 0 where
  by_definitions : {command : Command} {answer : Status} → definitions_in kinds (left part.Definitions) ≡ Err answer
      → Refuses kinds left command answer
  by_scripts : {command : Command} {defs : Defs} {fault : ScriptFault}
      → definitions_in kinds (left part.Definitions) ≡ Ok defs
      → HasFault defs (left part.Scripts) fault
      → Refuses kinds left command (status.Scripts fault)
  by_schedule : {job : Job} {fault : ScheduleFault} → IsJob kinds left job
      → events_of job.defs (left part.Schedule) ≡ Err fault
      → Refuses kinds left Run (status.Schedule fault)
