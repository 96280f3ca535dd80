-- Runs and stops, again and again.
use Rattle.std.specs.Prelude.{◌≡◌, ℕ, List, [], ◌++◌, take}
use Rattle.fp_model.specs.declared.log.Entry.{Entry}
use Rattle.fp_site.specs.Disk.{Disk, IsDurable, Settles, Snapshot}
use Rattle.log_groups.specs.Kept.{lines_of_entries}
use Rattle.number_laws.specs.Once.{IsOnce}
use Rattle.fp_system.specs.Courses.{Input, IsSoundFor}
use Rattle.fp_system.specs.Gives.{Migrated, Ran}
use Rattle.fp_system.specs.Ims.{IsUnchanged}
use Rattle.command_tasks.specs.Parts.{Job}
use Rattle.command_tasks.specs.declared.status.Status.{Status}

-- What stood at some time: the format of the log's front, its entries, and the bytes sent by then.
pub record Standing : Type 0 where
  pub format : ℕ
  pub entries : List Entry
  pub sent : List ℕ

abbrev pub standing : ℕ → List Entry → List ℕ → Standing
standing format entries sent = record { format = format; entries = entries; sent = sent }

-- ---- what was answered

-- texts that were sent of entries, each a first part of the reply lines of one run's
pub data IsTold : List Entry → List ℕ → Type 0 where
  nothing : IsTold [] []
  run : {entries : List Entry} {text : List ℕ} (later : List Entry) (count : ℕ) → IsTold entries text
      → IsTold (entries ++ later) (text ++ take count (lines_of_entries later))

-- A log holds what stood, when these bytes have been sent: it is sound, and has all entries from then, and the entry of
-- each line that was sent since.
pub record HoldsSince (job : Job) (start : Standing) (sent log : List ℕ) : Type 0 where
  pub later : List Entry
  pub sound : IsSoundFor job start.format log (start.entries ++ later)
  pub text : List ℕ
  pub since : sent ≡ start.sent ++ text
  pub told : IsTold later text

-- So does a disk: each log that a crash now may leave, or a sync make of that, and so the one that a read gives.
abbrev pub HoldsOn : Job → Standing → Disk → Type 0
HoldsOn job start disk = (log : List ℕ) → Settles disk 0 log → HoldsSince job start disk.sent log

-- So does each snapshot of a crash since a moment of this disk.
abbrev pub HeldThrough : Job → Standing → ℕ → Disk → Type 0
HeldThrough job start moment new = (s : Snapshot) → new.left_since moment s → HoldsSince job start s.sent (s.images 0)

-- ---- numbers

-- A log holds what stood, and no number of a terminal was used up twice: each Repeat has the reply line of the entry
-- that used up its number.
pub record IsOnceSince (job : Job) (start : Standing) (sent log : List ℕ) : Type 0 where
  pub holds : HoldsSince job start sent log
  pub once : IsOnce start.format (start.entries ++ holds.later)

-- So it is on a disk, also in each log that a crash now may leave, or a sync make of that.
abbrev pub IsOnceOn : Job → Standing → Disk → Type 0
IsOnceOn job start disk = (log : List ℕ) → Settles disk 0 log → IsOnceSince job start disk.sent log

-- ---- again and again

-- One call: a run of the job, whatever it was given and whatever it answers; its migration; or a call that leaves the
-- disk, as that of another job does.
pub data Calls (job : Job) (old new : Disk) : Type 0 where
  ran : {given : Input} {answer : Status} → Ran job given answer old new → Calls job old new
  migrated : {answer : Status} → Migrated job answer old new → Calls job old new
  spared : IsUnchanged old new → Calls job old new

-- a site begins as what a crash left at some moment since an earlier one
pub record IsBegunAgain (moment : ℕ) (stopped next : Disk) : Type 0 where
  pub snapshot : Snapshot
  pub left : stopped.left_since moment snapshot
  pub durable : IsDurable next 0
  pub log : next.contents 0 ≡ snapshot.images 0
  pub sent : next.sent ≡ snapshot.sent

-- Any number of calls, each on what the one before it left, or on what a stop within that one left: the states that a
-- site comes to, all of which are told.
module _ {X : Type 0} (told : X → Type 0) (disk : X → Disk) (job : Job) (first : X) where
  pub data Lives : X → Type 0 where
    begun : told first → Lives first
    called : {old : X} (new : X) → Lives old → told new → Calls job (disk old) (disk new) → Lives new
    stopped : {old : X} (new next : X) → Lives old → (disk old).tells_sent → Calls job (disk old) (disk new)
        → told next
        → IsBegunAgain ((disk old).moment) (disk new) (disk next) → Lives next
