-- That each line of a run that is done has its entry and its answer.
use Rattle.std.specs.Prelude.{◌≡◌, ℕ, List, ◌++◌, filter, Option}
use Rattle.fp_model.specs.declared.log.Entry.{Entry}
use Rattle.fp_model.specs.declared.name.Name.{Name}
use Rattle.fp_site.specs.Disk.{Disk, IsDurable}
use Rattle.line_laws.specs.Answered.{is_from, lines_answered}
use Rattle.log_groups.specs.Kept.{lines_of_entries}
use Rattle.fp_system.specs.Courses.{IsSoundFor}
use Rattle.command_tasks.specs.Parts.{Job, rules_for}

-- Behind the entries from before, those of this run answer just its lines: of each terminal its lines, in their order,
-- and so those in which no terminal can be read. They stand in the log for good, and just their reply lines were sent,
-- in the order of the log.
pub record AnswersEachLine (job : Job) (format : ℕ) (lines : List (List ℕ)) (earlier : List Entry) (old new : Disk) :
    Type 0 where
  pub later : List Entry
  pub in_order : (terminal : Option Name)
      → filter (is_from (rules_for job) terminal) (lines_answered later)
      ≡ filter (is_from (rules_for job) terminal) lines
  pub sound : IsSoundFor job format (new.contents 0) (earlier ++ later)
  pub durable : IsDurable new 0
  pub sent : new.sent ≡ old.sent ++ lines_of_entries later
