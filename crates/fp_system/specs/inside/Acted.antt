-- What a command did with a job on the site, and what came of a call.
use Rattle.std.specs.Prelude.{◌≡◌, ◌⊎◌, ℕ, ◌++◌, List, [], ◌∷◌, IfOk, Option, Result, Some}
use Rattle.std.specs.declared.alloc.AllocError.{AllocError}
use Rattle.balancing.specs.Numbered.{Numbered}
use Rattle.command_words.specs.Words.{command_of}
use Rattle.command_words.specs.declared.words.Command.{Command}
use Rattle.command_words.specs.declared.words.Command.TheVariants.{Define, Run, Show, Log, Migrate, Audit}
use Rattle.fp_exits.specs.Kinds.{Kinds}
use Rattle.fp_model.specs.declared.events.Event.{Event}
use Rattle.fp_model.specs.declared.log.Entry.{Entry}
use Rattle.fp_model.specs.LogText.{Front, first_gate}
use Rattle.fp_model.specs.Messages.{lines_of}
use Rattle.fp_restart.specs.Replayed.{ReadsBack}
use Rattle.fp_restart.specs.Restarts.{StandsFor}
use Rattle.fp_site.specs.Disk.{Disk, Settles}
use Rattle.fp_site.specs.Moments.{OnlyOn, Through}
use Rattle.fp_source.specs.declared.part.Part.{Part}
use Rattle.fp_source.specs.declared.part.Part.TheVariants as part
use Rattle.log_groups.specs.Images.{IsAtRest, IsBeforeOrAfter, IsBeforeOrMade, IsWithOrWithout}
use Rattle.log_groups.specs.Log.{LogState}
use Rattle.msdb_store.specs.Store.{Stored}
use Rattle.command_tasks.specs.Answers.{IsEarly, MayStandIn}
use Rattle.command_tasks.specs.Causes.{IsCaused}
use Rattle.fp_system.specs.Courses.{Input, IsSoundFor, input}
use Rattle.fp_system.specs.Gives.{Audited, HasNewText, IsBeforeSite, Logged, Migrated, Ran, Shown}
use Rattle.command_tasks.specs.Parts.{Job, front_for, front_in}
use Rattle.fp_system.specs.Table.{Asks, ByLog, Given, IsAnswerTo, IsDueTo, IsGood}
use Rattle.command_tasks.specs.declared.status.Status.{Status}
use Rattle.command_tasks.specs.declared.status.Status.TheVariants.{Done}
use Rattle.command_tasks.specs.Setups.{HasEventsFor}

-- ---- a restart

-- A restart gave this of a job's log, which is good: of a sound one what its entries mean.
pub record IsRestarted (job : Job) (old new : Disk) (store : Stored) (state : LogState) (lasts : Numbered) : Type 0
  where
    pub good : IsGood job (old.contents 0)
    pub back : ReadsBack job.defs (front_in state.front_format job) new store state lasts
    pub sound : (format : ℕ) (earlier : List Entry) → IsSoundFor job format (old.contents 0) earlier
        → StandsFor job.defs job.scripts (front_in format job) new earlier store state lasts

-- It gave this answer: another's log, or a bad one, or a fault in the place of that; of a sound one a fault.
pub record IsRefusedLog (job : Job) (old new : Disk) (answer : Status) : Type 0 where
  pub due : ByLog job (old.contents 0) (λ behind. ⊥) answer ⊎ MayStandIn answer
  pub never : (format : ℕ) (earlier : List Entry) → IsSoundFor job format (old.contents 0) earlier
      → MayStandIn answer
  pub images : (image : List ℕ) → Settles new 0 image → Settles old 0 image

-- ---- what a seal leaves

-- A log at rest has its groups, or behind them one of this entry, whole; so has each image that a further sync may
-- make. With Done that group is there for good.
pub record Seals (front : Front) (groups : List (List Entry)) (gate : ℕ) (entry : Entry) (answer : Status)
    (old new : Disk) : Type 0 where
  pub crash : Through old new (IsBeforeOrAfter front groups gate (entry ∷ []))
  pub settles : (image : List ℕ) → Settles new 0 image → IsWithOrWithout front groups gate (entry ∷ []) image
  pub gate_then : ℕ
  pub durable : answer ≡ Done → IsAtRest new front (groups ++ (entry ∷ []) ∷ []) gate_then

-- ---- commands

-- what `define` gives of a job
pub record Made (job : Job) (answer : Status) (old new : Disk) : Type 0 where
  pub only : OnlyOn 0 old new
  pub made : answer ≡ Done → IsAtRest new (front_for job) [] (first_gate (front_for job))
  pub text : answer ≡ Done → HasNewText job (old.contents 0) (new.contents 0)
  pub crash : Through old new (IsBeforeOrMade old (front_for job))

-- what each command gives of a job
abbrev pub Gives : Command → Job → Input → Status → Disk → Disk → Type 0
Gives Define job given answer old new = Made job answer old new
Gives Run job given answer old new = Ran job given answer old new
Gives Show job given answer old new = Shown job answer old new
Gives Log job given answer old new = Logged job answer old new
Gives Migrate job given answer old new = Migrated job answer old new
Gives Audit job given answer old new = Audited job answer old new

-- what it is given beside that: these events, and the message lines that are left
abbrev pub input_of : Given → List Event → Input
input_of g events = input events (lines_of (g.left part.Messages))

-- A command of a job answered what it is due, or a fault in its place, and gave what it gives.
pub record Acted (which : Command) (job : Job) (events : List Event) (g : Given) (answer : Status) (old new : Disk)
    : Type 0 where
  pub due : IsDueTo which job g answer ⊎ MayStandIn answer
  pub gives : Gives which job (input_of g events) answer old new

-- Whatever is told, its answer isn't an early one, and each fault is told; and where it comes before the site is
-- touched that is as it was.
pub record IsLate (which : Command) (read read2 stored stored2 : ℕ) (answer : Status) (is_same : Type 0) : Type 0 where
  pub late : IsEarly answer → ⊥
  pub cause : IsCaused read read2 stored stored2 answer
  pub untouched : IsBeforeSite (Some which) answer → is_same

-- ---- calls

-- what a call is given
abbrev pub given_of : Kinds → List (List ℕ) → (Part → List ℕ) → Disk → Given
given_of kinds words left disk = record { kinds = kinds; words = words; left = left; contents = disk.contents }

-- words were read so, unless memory lacked
abbrev pub IsReadOf : List (List ℕ) → Result (Option Command) AllocError → Type 0
IsReadOf words found = IfOk found (λ which. which ≡ command_of words)

-- What came of a call: an answer that is due, and of each command and job that it asks for what that gives.
pub record Served (g : Given) (answer : Status) (old new : Disk) : Type 0 where
  pub due : IsAnswerTo g answer
  pub only : command_of g.words ≡ Some Define → OnlyOn 0 old new
  pub gives : (which : Command) (job : Job) (events : List Event) → Asks g which job
      → HasEventsFor which job g.left events → Gives which job (input_of g events) answer old new
