-- Which answer is due: of the words, then of definitions, scripts and schedule, then of the log, then of the message
-- lines.
use denote.Param.Members.{Mut}
use Rattle.std.specs.Prelude.{◌≡◌, ◌⊎◌, ℕ, List, Option, Some, None, ⊤, map, option_map, String, string_bytes}
use Rattle.std.specs.Borrow.{Bor}
use Rattle.fp_core.specs.Standing.{number_of}
use Rattle.fp_exits.specs.Kinds.{Kinds, kinds_of}
use Rattle.fp_exits.specs.declared.exits.Exits.{Exits}
use Rattle.fp_model.specs.declared.name.Name.{Name}
use Rattle.fp_model.specs.declared.log.Entry.{Entry}
use Rattle.fp_model.specs.Groups.{HoldsGroups, IsDamaged, entries_of}
use Rattle.fp_model.specs.Lasts.{format_at}
use Rattle.fp_model.specs.LogText.{first_gate}
use Rattle.fp_model.specs.Messages.{line_fault}
use Rattle.log_groups.specs.Images.{BeginsFor, HoldsFor}
use Rattle.fp_restart.specs.Replayed.{IsFirstBadAt, IsReadable}
use Rattle.fp_site.specs.Disk.{Disk}
use Rattle.site_audit.specs.Legal.{IsBrokenAt, IsIllegalLog, IsLegalLog}
use Rattle.fp_source.specs.declared.part.Part.{Part}
use Rattle.fp_source.specs.declared.part.Part.TheVariants as part
use Rattle.command_tasks.specs.Answers.{MayStandIn}
use Rattle.command_tasks.specs.Parts.{Job, HasSchedule, IsJob, Refuses, front_for}
use Rattle.command_words.specs.Words.{command_of}
use Rattle.command_tasks.specs.declared.status.Status.{Status}
use Rattle.command_tasks.specs.declared.status.Status.TheVariants.{Done, Usage, Foreign, Damaged, Line, OldFormat, Illegal}
use Rattle.command_words.specs.declared.words.Command.{Command}
use Rattle.command_words.specs.declared.words.Command.TheVariants.{Define, Run, Show, Log, Migrate, Audit}

-- What a call is given, as it is told: the kinds of exit that there are, the words behind the program's name, what is
-- left of each part, and what each data set holds.
pub record Given : Type 0 where
  pub kinds : Kinds
  pub words : List (List ℕ)
  pub left : Part → List ℕ
  pub contents : ℕ → List ℕ

abbrev pub given :
    {X Y Z : Type 0} {F : X → Type 0} {G : Y → Type 0}
    {m : Mut ((x : X) × F x) (Bor (List ℕ) × (ℕ × ⊤)) ℕ} {n : Mut ((y : Y) × G y) (Bor Name × (ℕ × ⊤)) ℕ}
    → Exits X Y F G m n → List (String Z) → (Part → List ℕ) → Disk → Given
given exits words left disk =
    record { kinds = kinds_of exits; words = map string_bytes words; left = left; contents = disk.contents }

-- the words ask for this command, and the parts are this job, for a run with a schedule
pub record Asks (g : Given) (command : Command) (job : Job) : Type 0 where
  pub command_is : command_of g.words ≡ Some command
  pub job_is : IsJob g.kinds g.left job
  pub schedule_is : HasSchedule command job g.left

-- ---- the log

-- the log begins with the job's open front in neither format
abbrev pub IsForeign : Job → List ℕ → Type 0
IsForeign job log = ¬ (BeginsFor (front_for job) log)

-- behind the front it is bad, first at this place
pub record IsBadFirst (job : Job) (log : List ℕ) (at : ℕ) : Type 0 where
  pub begins : BeginsFor (front_for job) log
  pub bad : IsFirstBadAt job.defs log (first_gate (front_for job)) at

-- another's log, or one that is bad somewhere
abbrev pub IsSpared : Job → List ℕ → Type 0
IsSpared job log = IsForeign job log ⊎ ((at : ℕ) × IsBadFirst job log at)

-- it is the job's, and can be read to a gate that isn't open
pub record IsGood (job : Job) (log : List ℕ) : Type 0 where
  pub begins : BeginsFor (front_for job) log
  pub readable : IsReadable job.defs log (first_gate (front_for job))

-- The log is judged first. Of a good one the answer is what stands behind.
pub data ByLog (job : Job) (log : List ℕ) (behind : Status → Type 0) : Status → Type 0 where
  foreign : IsForeign job log → ByLog job log behind Foreign
  damaged : {at : ℕ} → IsBadFirst job log at → ByLog job log behind (Damaged 0 at)
  good : {answer : Status} → IsGood job log → behind answer → ByLog job log behind answer

-- So is it by its groups alone, whose items aren't applied: the first gate with bytes behind it that are no group, or
-- the end.
pub data ByGroups (job : Job) (log : List ℕ) : Status → Type 0 where
  of_others : IsForeign job log → ByGroups job log Foreign
  broken : (groups : List (List Entry)) {at : ℕ} → BeginsFor (front_for job) log
      → HoldsGroups log (first_gate (front_for job)) groups at → IsDamaged log at → ByGroups job log (Damaged 0 at)
  whole : (groups : List (List Entry)) (gate : ℕ) → HoldsFor (front_for job) log groups gate → ByGroups job log Done

-- So is it by its entries. The first gate with bytes behind it that are no group is damage, also behind an entry that
-- isn't legal. Of a log that can be read to its end the first such entry is named, and Done says that there is none.
pub data ByEntries (job : Job) (log : List ℕ) : Status → Type 0 where
  of_none : IsForeign job log → ByEntries job log Foreign
  torn : {at : ℕ} → IsBrokenAt (front_for job) log at → ByEntries job log (Damaged 0 at)
  illegal : {entry : ℕ} → IsIllegalLog job.defs job.scripts (front_for job) log entry
      → ByEntries job log (Illegal entry)
  legal : {count : ℕ} → IsLegalLog job.defs job.scripts (front_for job) log count → ByEntries job log Done

-- ---- the lines

-- the number of the first line that isn't taken, if there is one
abbrev pub faulty_line : List ℕ → Option ℕ
faulty_line bytes = option_map number_of (line_fault bytes)

-- that line, or the end
abbrev pub end_of_lines : Option ℕ → Status
end_of_lines None = Done
end_of_lines (Some number) = Line number

-- The log is one of format 1: behind its entries a line is still read in it.
pub record IsOld (job : Job) (log : List ℕ) : Type 0 where
  pub groups : List (List Entry)
  pub gate : ℕ
  pub holds : HoldsFor (front_for job) log groups gate
  pub first : format_at holds.begins.format (entries_of groups) ≡ 1

-- No line of a log of format 1 is read. Of any other it is the first line that isn't taken, or the end.
pub data IsEnd (job : Job) (log messages : List ℕ) : Status → Type 0 where
  old : IsOld job log → IsEnd job log messages OldFormat
  lines : ¬ (IsOld job log) → IsEnd job log messages (end_of_lines (faulty_line messages))

-- ---- the table

-- what a command is due, of a job
abbrev pub IsDueTo : Command → Job → Given → Status → Type 0
IsDueTo Define job g answer = answer ≡ Done
IsDueTo Run job g answer = ByLog job (g.contents 0) (IsEnd job (g.contents 0) (g.left part.Messages)) answer
IsDueTo Show job g answer = ByLog job (g.contents 0) (λ behind. behind ≡ Done) answer
IsDueTo Log job g answer = ByGroups job (g.contents 0) answer
IsDueTo Migrate job g answer = ByLog job (g.contents 0) (λ behind. behind ≡ Done) answer
IsDueTo Audit job g answer = ByEntries job (g.contents 0) answer

-- the answer that a call is due
pub data IsDue (g : Given) : Status → Type 0 where
  no_command : command_of g.words ≡ None → IsDue g Usage
  refused : {command : Command} {answer : Status} → command_of g.words ≡ Some command
      → Refuses g.kinds g.left command answer → IsDue g answer
  asked : {command : Command} {job : Job} {answer : Status} → Asks g command job → IsDueTo command job g answer
      → IsDue g answer

-- ---- what may stand in the place of it

-- the answer is what is due, or a fault in its place
abbrev pub IsAnswerTo : Given → Status → Type 0
IsAnswerTo g answer = IsDue g answer ⊎ MayStandIn answer
