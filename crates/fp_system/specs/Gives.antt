-- What the commands give, whatever the answer is.
use Rattle.std.specs.Prelude.{◌≡◌, ◌⊎◌, ℕ, ◌+◌, List, [], ◌∷◌, ◌++◌, drop, length, take, Err, Option, None, Some}
use Rattle.fp_model.specs.declared.log.Entry.{Entry}
use Rattle.fp_model.specs.declared.log.Outcome.TheVariants.{Format}
use Rattle.fp_model.specs.Groups.{entries_of}
use Rattle.fp_model.specs.LogText.{first_gate, log_text}
use Rattle.fp_model.specs.Machine.{at_rest}
use Rattle.fp_model.specs.Recovery.{Holds}
use Rattle.fp_site.specs.Disk.{Disk, IsDurable, Settles, Snapshot, Stays, Syncs}
use Rattle.fp_site.specs.Moments.{OnlyOn, Through}
use Rattle.fp_model.specs.declared.database.Db.{Db}
use Rattle.fp_model.specs.SerialHistory.{IsSerialHistory}
use Rattle.fp_show.specs.DbText.{db_text}
use Rattle.site_audit.specs.Legal.{IsLegalLog}
use Rattle.site_audit.specs.Verdicts.{SendsVerdict, legal_text}
use Rattle.site_texts.specs.Texts.{IsDbSent, IsLogSent, IsSentToDamage, SendsDb, SendsGroups}
use Rattle.log_groups.specs.Images.{IsAtRest, IsBeforeOrMade, IsLog as HasLog}
use Rattle.log_groups.specs.Kept.{IsSafe}
use Rattle.fp_source.specs.declared.part.Part.{Part}
use Rattle.fp_source.specs.declared.part.Part.TheVariants as part
use Rattle.command_tasks.specs.Answers.{IsEarly, IsOfLog}
use Rattle.fp_core.specs.Sparing.{IsLogSet as IsLog, Spares}
use Rattle.fp_system.specs.Ims.{IsUnchanged}
use Rattle.fp_exits.specs.Kinds.{Kinds}
use Rattle.command_tasks.specs.Parts.{Job, HasSchedule, IsJob, definitions_in, front_for, front_in, rules_for}
use Rattle.fp_system.specs.Courses.{Course, GoesOnTo, Input, IsSoundFor, IsEnded, IsKeptBy, IsNotBegun, Point}
use Rattle.fp_system.specs.Table.{Given, IsOld, IsSpared}
use Rattle.command_tasks.specs.declared.status.Status.{Status}
use Rattle.command_tasks.specs.declared.status.Status.TheVariants.{Damaged, Done, Illegal, ReadFault, SiteFault, NoMemory}
use Rattle.command_words.specs.declared.words.Command.{Command}
use Rattle.command_words.specs.declared.words.Command.TheVariants.{Define, Run}

-- the site safely holds these entries under the job, behind a front of this format
abbrev pub IsSafeFor : Job → ℕ → Disk → List Entry → Type 0
IsSafeFor job format disk entries = IsSafe job.defs job.scripts (front_in format job) disk entries

-- ---- define

-- A new log is its front and a closed gate. No call shortens a data set, so what stood behind that place stays there.
abbrev pub HasNewText : Job → List ℕ → List ℕ → Type 0
HasNewText job old new = new ≡ log_text (front_for job) [] ++ drop (first_gate (front_for job) + 1) old

-- The log alone changes, and nothing is sent. Of a job, Done leaves it new, at rest and for good, and a crash at any
-- moment leaves it as a sync might have left it before, or with no open front, or new.
pub record Defined (g : Given) (answer : Status) (old new : Disk) : Type 0 where
  pub only : OnlyOn 0 old new
  pub made : (job : Job) → IsJob g.kinds g.left job → answer ≡ Done
      → IsAtRest new (front_for job) [] (first_gate (front_for job))
  pub text : (job : Job) → IsJob g.kinds g.left job → answer ≡ Done → HasNewText job (old.contents 0) (new.contents 0)
  pub crash : (job : Job) → IsJob g.kinds g.left job → Through old new (IsBeforeOrMade old (front_for job))

-- ---- run

-- A crash leaves the bytes before the gate, but for a sync of the log.
abbrev pub KeepsFront : ℕ → Disk → Snapshot → Type 0
KeepsFront gate old s = Syncs old 0 s ⊎ (take gate (s.images 0) ≡ take gate (old.contents 0))

-- How a run from a safe site ended: turns of the table led from the machine at rest behind the earlier entries, which
-- stand in these groups, to where it ended. The log goes on by the groups that the machine sealed, and just its bytes
-- were sent; where a step ended the run early, the turns before it are such a run. Or no step was done. At each moment
-- since the call's start a crash leaves what stood, or a log that goes on from it.
pub record Went (job : Job) (format : ℕ) (given : Input) (earlier : List Entry) (answer : Status) (old new : Disk)
    : Type 0 where
  pub before : List (List Entry)
  pub stood : entries_of before ≡ earlier
  pub old_gate : ℕ
  pub held : Holds (front_in format job) (old.contents 0) before old_gate
  pub point : Point
  pub course : Course job format given earlier point.left point.here
  pub log : GoesOnTo job format before point (new.contents 0)
  pub sent : new.sent ≡ old.sent ++ point.text
  pub ended : IsNotBegun given answer (at_rest (rules_for job) given.lines course.behind) point old new
      ⊎ IsEnded job format given answer before point new
  pub moments : Through old new (IsKeptBy job format given earlier before old)

-- Whatever the answer is: another's log stays, and a bad one, and one of format 1, and all other data sets. A log that
-- can be read stays up to its first gate that isn't open, also if that is absent, and if its entries are no history; but
-- for what a sync of the log as it stood may make of it. A safe site in format 2 goes on.
pub record Ran (job : Job) (given : Input) (answer : Status) (old new : Disk) : Type 0 where
  pub spares : IsSpared job (old.contents 0) → IsUnchanged old new
  pub first : IsOld job (old.contents 0) → IsUnchanged old new × ¬ (answer ≡ Done)
  pub others : Spares IsLog old new
  pub keeps : (format : ℕ) (groups : List (List Entry)) (gate : ℕ)
      → Holds (front_in format job) (old.contents 0) groups gate → Through old new (KeepsFront gate old)
  pub goes : (format : ℕ) (earlier : List Entry) → IsSafeFor job format old earlier → ¬ (IsOld job (old.contents 0))
      → Went job format given earlier answer old new

-- ---- show and log

-- With Done the text of the databases that the log's entries make was sent, and the log is for good. Whatever the
-- answer is, it was a first part of that text; no contents change, and a crash at any moment leaves what it might have
-- left, but for a sync of the log, and a first part sent. Of a sound log the text is that of its last state.
pub record Shown (job : Job) (answer : Status) (old new : Disk) : Type 0 where
  pub whole : answer ≡ Done → IsDbSent job.defs (front_for job) old new
  pub rests : answer ≡ Done → IsDurable new 0
  pub sends : SendsDb job.defs (front_for job) old new
  pub means : (format : ℕ) (entries : List Entry) (last : Db) → IsSoundFor job format (old.contents 0) entries
      → IsSerialHistory (rules_for job) format entries last → answer ≡ Done
      → new.sent ≡ old.sent ++ db_text job.defs last

-- With Done the text of all groups up to the first gate that isn't open was sent, with Damaged that of the groups
-- before that place. Whatever the answer is, it was a first part of the text of groups that the log holds, none of
-- another's log, and nothing else changes, at no moment.
pub record Logged (job : Job) (answer : Status) (old new : Disk) : Type 0 where
  pub whole : answer ≡ Done → IsLogSent (front_for job) old new
  pub damaged : (at : ℕ) → answer ≡ Damaged 0 at → IsSentToDamage (front_for job) at old new
  pub sends : SendsGroups (front_for job) old new

-- ---- audit

-- With Done the entries of the whole log are legal, and the line with their number was sent. With any other answer
-- nothing was, or a first part of it with SiteFault; and nothing else changes, at no moment. So no entry of a sound log is
-- found illegal, and with Done of one the number is that of its entries.
pub record Audited (job : Job) (answer : Status) (old new : Disk) : Type 0 where
  pub legal : answer ≡ Done → (count : ℕ) × (IsLegalLog job.defs job.scripts (front_for job) (old.contents 0) count
      × (new.sent ≡ old.sent ++ legal_text count))
  pub silent : ¬ (answer ≡ Done) → ¬ (answer ≡ SiteFault) → Stays old new
  pub sends : SendsVerdict job.defs job.scripts (front_for job) old new
  pub never : (format entry : ℕ) (entries : List Entry) → IsSoundFor job format (old.contents 0) entries
      → ¬ (answer ≡ Illegal entry)
  pub means : (format : ℕ) (entries : List Entry) → IsSoundFor job format (old.contents 0) entries → answer ≡ Done
      → new.sent ≡ old.sent ++ legal_text (length entries)

-- ---- migrate

-- The entry that lets messages have numbers from its place on.
abbrev pub format_entry : ℕ → Entry
format_entry place = record { from = place; outcome = Format; line = []; reply = []; notes = []; items = [] }

-- A log has the entries from before, or behind them the one that lets messages have numbers; it is sound.
abbrev pub IsMigratedOr : Job → ℕ → List Entry → List ℕ → Type 0
IsMigratedOr job format earlier log =
    IsSoundFor job format log earlier ⊎ IsSoundFor job format log (earlier ++ format_entry (length earlier) ∷ [])

-- A crash left such a log, and nothing was sent.
pub record IsMigrating (job : Job) (format : ℕ) (earlier : List Entry) (old : Disk) (s : Snapshot) : Type 0 where
  pub log : IsMigratedOr job format earlier (s.images 0)
  pub sent : old.tells_sent → s.sent ≡ old.sent

-- What becomes of a safe site in format 1. Nothing is sent. The log has the entries from before, and with Done also the
-- one more, for good; so has each log that a sync may make of it, or it is one that a sync might have made before. At
-- each moment a crash leaves what stood, but for a sync of the log, or such a log.
pub record Moved (job : Job) (format : ℕ) (earlier : List Entry) (answer : Status) (old new : Disk) : Type 0 where
  pub sent : new.sent ≡ old.sent
  pub done : answer ≡ Done
      → IsSoundFor job format (new.contents 0) (earlier ++ format_entry (length earlier) ∷ []) × IsDurable new 0
  pub images : (log : List ℕ) → Settles new 0 log → Settles old 0 log ⊎ IsMigratedOr job format earlier log
  pub moments : Through old new (λ s. Syncs old 0 s ⊎ IsMigrating job format earlier old s)

-- A log is at rest with these groups, and behind them one of the entry that lets messages have numbers.
pub record HasMore (job : Job) (format : ℕ) (groups : List (List Entry)) (disk : Disk) : Type 0 where
  pub gate : ℕ
  pub at_rest : IsAtRest disk (front_in format job)
      (groups ++ (format_entry (length (entries_of groups)) ∷ []) ∷ []) gate

-- Whatever the answer is: nothing is sent, and another's log stays, and a bad one, and one of format 2, and all other
-- data sets. A log that can be read stays up to its first gate that isn't open, also if that is absent, but for what a sync
-- of the log as it stood may make of it. With Done one of format 1 whose gate is there has the one entry more, in a group of
-- its own, also if its entries are no history. A safe site in format 1 gets that whole, or stays.
pub record Migrated (job : Job) (answer : Status) (old new : Disk) : Type 0 where
  pub spares : IsSpared job (old.contents 0) → IsUnchanged old new
  pub stays : ¬ (IsOld job (old.contents 0)) → IsUnchanged old new
  pub others : Spares IsLog old new
  pub keeps : (format : ℕ) (groups : List (List Entry)) (gate : ℕ)
      → Holds (front_in format job) (old.contents 0) groups gate → Through old new (KeepsFront gate old)
  pub unsent : new.sent ≡ old.sent
  pub whole : (format : ℕ) (groups : List (List Entry)) (gate : ℕ)
      → HasLog (front_in format job) (old.contents 0) groups gate → IsOld job (old.contents 0) → answer ≡ Done
      → HasMore job format groups new
  pub goes : (format : ℕ) (earlier : List Entry) → IsSafeFor job format old earlier → IsOld job (old.contents 0)
      → Moved job format earlier answer old new

-- ---- what stays

-- An answer that comes before the site is touched. Only a run reads its source behind that, and `define` takes its
-- memory before.
abbrev pub IsBeforeSite : Option Command → Status → Type 0
IsBeforeSite found ReadFault = ¬ (found ≡ Some Run)
IsBeforeSite found NoMemory = found ≡ Some Define
IsBeforeSite found answer = IsEarly answer

-- Only a run reads schedule and messages. One that is done leaves no message, and one whose log is foreign, damaged or
-- of format 1 reads none.
pub record Took (found : Option Command) (answer : Status) (old new : Part → List ℕ) : Type 0 where
  pub no_schedule : ¬ (found ≡ Some Run) → new part.Schedule ≡ old part.Schedule
  pub no_messages : ¬ (found ≡ Some Run) → new part.Messages ≡ old part.Messages
  pub all : found ≡ Some Run → answer ≡ Done → new part.Messages ≡ []
  pub unread : found ≡ Some Run → IsOfLog answer → new part.Messages ≡ old part.Messages

-- The parts are read in their order, none for words that are no command, and none behind one that is refused: the
-- scripts where the definitions are good, the schedule where both are a job, and message lines where that has its
-- schedule.
pub record InOrder (kinds : Kinds) (found : Option Command) (old new : Part → List ℕ) : Type 0 where
  pub words : found ≡ None → (p : Part) → new p ≡ old p
  pub scripts : (answer : Status) → definitions_in kinds (old part.Definitions) ≡ Err answer
      → new part.Scripts ≡ old part.Scripts
  pub schedule : ¬ ((job : Job) × IsJob kinds old job) → new part.Schedule ≡ old part.Schedule
  pub messages : ¬ ((job : Job) × IsJob kinds old job × HasSchedule Run job old)
      → new part.Messages ≡ old part.Messages
