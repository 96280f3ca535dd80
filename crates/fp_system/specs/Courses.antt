-- Courses of a run: how far turns of the table come behind what a log has, and what was sealed and sent by then.
use Rattle.std.specs.Prelude.{◌≡◌, ◌⊎◌, ⊤, ℕ, ◌-◌, ◌≤◌, List, [], ◌++◌, drop, None, Some}
use Rattle.fp_core.specs.Sparing.{IsSealing}
use Rattle.fp_core.specs.Standing.{IsBetween, seals_of}
use Rattle.fp_model.specs.declared.events.Event.{Event}
use Rattle.fp_model.specs.declared.events.Event.TheVariants as event
use Rattle.fp_model.specs.declared.log.Entry.{Entry}
use Rattle.fp_model.specs.Groups.{entries_of}
use Rattle.fp_model.specs.History.{History}
use Rattle.fp_model.specs.Machine.{Idle, Machine, at_rest, region_at, sealed_times}
use Rattle.fp_model.specs.Runs.{IsDrained}
use Rattle.fp_model.specs.SerialHistory.{IsSerial}
use Rattle.fp_site.specs.Disk.{Disk, IsDurable, Settles, Snapshot, Syncs}
use Rattle.log_groups.specs.Images.{IsLog as HasLog}
use Rattle.log_groups.specs.Kept.{IsSound}
use Rattle.schedule_runs.specs.Ways.{Comes, next_event}
use Rattle.command_tasks.specs.Answers.{MayStandIn}
use Rattle.command_tasks.specs.Parts.{Job, front_in, rules_for}
use Rattle.command_tasks.specs.declared.status.Status.{Status}
use Rattle.command_tasks.specs.declared.status.Status.TheVariants.{Done, ReadFault, SiteFault, Line, NoMemory}

-- what a run is given: the events of its schedule, and the message lines
pub record Input : Type 0 where
  pub events : List Event
  pub lines : List (List ℕ)

abbrev pub input : List Event → List (List ℕ) → Input
input events lines = record { events = events; lines = lines }

-- the log is a serial history of these entries under the job, behind a front of this format
abbrev pub IsSoundFor : Job → ℕ → List ℕ → List Entry → Type 0
IsSoundFor job format log entries = IsSound job.defs job.scripts (front_in format job) log entries

-- a serial history of these entries, behind a front of this format
pub record IsHistoryOf (job : Job) (format : ℕ) (earlier : List Entry) (h : History) : Type 0 where
  pub is_serial : IsSerial (rules_for job) h
  pub entries : h.entries ≡ earlier
  pub front : h.format ≡ format

-- From the machine at rest behind the earlier entries, with these lines, turns of the table lead over the schedule and
-- the drain to this machine, and these events are left.
pub record Course (job : Job) (format : ℕ) (given : Input) (earlier : List Entry) (left : List Event) (here : Machine) :
    Type 0 where
  pub behind : History
  pub history : IsHistoryOf job format earlier behind
  pub comes : Comes job.defs (rules_for job) given.events (at_rest (rules_for job) given.lines behind) left here

-- How far a run had come: the events that were left, the machine that turns had led to, and the text that was sent
-- since its start.
pub record Point : Type 0 where
  pub left : List Event
  pub here : Machine
  pub text : List ℕ

-- the machine there, behind so many groups more
abbrev pub with_seals : Job → Point → ℕ → Machine
with_seals job point times = sealed_times times (rules_for job) point.here

-- A log goes on from the groups before by just those that the machine sealed, and just its bytes were sent. Where the
-- next step is LOG or CKPT, that may have sealed so many groups more, and sent a first part of the lines of their
-- entries. It is sound.
pub record GoesOnTo (job : Job) (format : ℕ) (before : List (List Entry)) (point : Point) (log : List ℕ) : Type 0 where
  pub times : ℕ
  pub few : times ≤ seals_of (next_event point.left) point.here
  pub gate : ℕ
  pub groups : HasLog (front_in format job) log (before ++ (with_seals job point times).groups) gate
  pub sound : IsSoundFor job format log (entries_of (before ++ (with_seals job point times).groups))
  pub told : IsBetween point.here.sent point.text (with_seals job point times).sent

-- A crash left a log that goes on so, from wherever the run had come by then.
pub record GoesOnBy (job : Job) (format : ℕ) (given : Input) (earlier : List Entry) (before : List (List Entry))
    (old : Disk) (s : Snapshot) : Type 0 where
  pub point : Point
  pub course : Course job format given earlier point.left point.here
  pub log : GoesOnTo job format before point (s.images 0)
  pub sent : old.tells_sent → s.sent ≡ old.sent ++ point.text

-- A snapshot keeps what stood: it is one that a crash might have left as the call began, but for a sync of the log, or
-- its log goes on from it.
abbrev pub IsKeptBy : Job → ℕ → Input → List Entry → List (List Entry) → Disk → Snapshot → Type 0
IsKeptBy job format given earlier before old s = Syncs old 0 s ⊎ GoesOnBy job format given earlier before old s

-- ---- where a run ends

-- the next step reads a line: it is an IN, and no line is held
pub record IsAtLine (left : List Event) (here : Machine) : Type 0 where
  pub takes : next_event left ≡ event.In
  pub none_held : here.held ≡ None

-- A step that may end a run for want of memory. An OUT does nothing, and there is no area to purge. The turn of a
-- region does only where that is idle: a transaction that is under way gets an entry that says so.
abbrev pub MayWant : Event → Machine → Type 0
MayWant event.Out here = ⊥
MayWant (event.Purge set n) here = ⊥
MayWant (event.Region region) here = region_at here region ≡ Some Idle
MayWant _ here = ⊤

-- Where a run ends with this answer. With Done all events were taken, and the drain. A line that isn't taken is the
-- next one that would be read. Where a read failed the next step reads a line; where the site failed it is a LOG or
-- CKPT; and where memory lacked it is one that may want some.
abbrev pub EndsAt : Job → Input → Status → List Event → Machine → Type 0
EndsAt job given Done left here = (left ≡ []) × IsDrained (rules_for job) here
EndsAt job given (Line number) left here = IsAtLine left here × (here.lines ≡ drop (number - 1) given.lines)
EndsAt job given ReadFault left here = IsAtLine left here
EndsAt job given SiteFault left here = IsSealing (next_event left)
EndsAt job given NoMemory left here = MayWant (next_event left) here
EndsAt job given _ left here = ⊥

-- A run ended there with this answer. Each log that a sync may make of its own goes on so; and it is for good, where
-- the next step seals nothing.
pub record IsEnded (job : Job) (format : ℕ) (given : Input) (answer : Status) (before : List (List Entry))
    (point : Point) (new : Disk) : Type 0 where
  pub ends : EndsAt job given answer point.left point.here
  pub images : (log : List ℕ) → Settles new 0 log → GoesOnTo job format before point log
  pub rest : ¬ IsSealing (next_event point.left) → IsDurable new 0

-- No step was done: a fault or want of memory came first. Each log that a sync may make is one that it might have made
-- before.
pub record IsNotBegun (given : Input) (answer : Status) (start : Machine) (point : Point) (old new : Disk) : Type 0
  where
    pub in_place : MayStandIn answer
    pub all_left : point.left ≡ given.events
    pub at_start : point.here ≡ start
    pub unsent : point.text ≡ []
    pub images : (log : List ℕ) → Settles new 0 log → Settles old 0 log
