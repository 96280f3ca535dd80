-- What bodies and proofs need of Courses, beside what contracts say.
use Rattle.std.specs.Prelude.{◌≡◌, List, length}
use Rattle.balancing.specs.Numbered.{Numbered}
use Rattle.fp_core.specs.Sparing.{IsSealing}
use Rattle.fp_core.specs.Standing.{IsWithin, Origin, seals_of}
use Rattle.fp_model.specs.declared.events.Event.{Event}
use Rattle.fp_model.specs.History.{History, place_of}
use Rattle.fp_model.specs.Lasts.{format_at, lasts_of}
use Rattle.fp_model.specs.Machine.{Machine, at_rest}
use Rattle.fp_site.specs.Disk.{Disk, IsDurable}
use Rattle.fp_site.specs.Moments.{Through}
use Rattle.log_groups.specs.Images.{IsAtRest}
use Rattle.log_groups.specs.Log.{LogState}
use Rattle.msdb_store.specs.Store.{Stored}
use Rattle.schedule_runs.specs.Standing.{IsLeftOnWay}
use Rattle.schedule_runs.specs.Ways.{Comes, next_event}
use Rattle.command_tasks.specs.Parts.{Job, rules_for}
use Rattle.command_tasks.specs.declared.status.Status.{Status}
use Rattle.fp_system.specs.Courses.{Input, EndsAt}

-- ---- from where a run begins

-- What a run begins with: the log is at rest behind the groups of the origin, in which so many entries are sealed, the
-- store has the databases of a history of so many entries, the next line is read in its format, and the numbers are
-- those of its entries.
pub record IsBegun (origin : Origin) (h : History) (store : Stored) (log : LogState) (numbers : Numbered) (disk : Disk)
    : Type 0 where
  pub msdbs : h.now.msdbs ≡ store.msdbs
  pub place : place_of h ≡ log.sealed
  pub states : length h.past ≡ place_of h
  pub format : format_at h.format h.entries ≡ log.format
  pub lasts : numbers.terminals ≡ lasts_of h.format h.entries
  pub at_rest : IsAtRest disk origin.front origin.groups log.gate
  pub sent : disk.sent ≡ origin.sent

-- How a run went from there: it came to a machine, and the disk is one that the next step may end with, for good where
-- that seals nothing. At each moment a crash left what one within the step behind some machine on the way leaves.
pub record RanFrom (job : Job) (given : Input) (origin : Origin) (h : History) (answer : Status) (old new : Disk)
    : Type 0 where
  pub left : List Event
  pub here : Machine
  pub comes : Comes job.defs (rules_for job) given.events (at_rest (rules_for job) given.lines h) left here
  pub ends : EndsAt job given answer left here
  pub within : IsWithin origin (rules_for job) here (seals_of (next_event left) here) old new
  pub rest : ¬ IsSealing (next_event left) → IsDurable new 0
  pub moments : Through old new (IsLeftOnWay origin job.defs (rules_for job) given.events
      (at_rest (rules_for job) given.lines h) old)
