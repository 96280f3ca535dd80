-- How a run ended: from what the run of the schedule says, where it was done, and where a step ended it.
use Rattle.std.proofs.Common.{◌≡◌, refl, sym, ◌∙◌, ap, subst, arith, ℕ, ◌+◌, ◌-◌, ◌≤◌, List, [], ◌++◌, length, drop, Some}
use Rattle.std.proofs.lemmas.List.{append-nil, length-drop}
use Rattle.fp_core.specs.Standing.{HasGroups, IsWithin, MayStop, Origin}
use Rattle.fp_core.specs.declared.engine.Engine.{Engine}
use Rattle.fp_core.specs.declared.stop.Stop.{Stop}
use Rattle.fp_core.specs.declared.stop.Stop.TheVariants as stop
use Rattle.fp_core.proofs.StopLemmas.{line_fault_reads, log_fault_seals, read_fault_reads}
use Rattle.fp_model.specs.declared.events.Event.{Event}
use Rattle.fp_model.specs.declared.events.Event.TheVariants as event
use Rattle.fp_model.specs.History.{History}
use Rattle.fp_model.specs.Machine.{Idle, Machine, at_rest, region_at}
use Rattle.fp_site.specs.Disk.{Disk}
use Rattle.fp_site.specs.Moments.{Through}
use Rattle.fp_site.proofs.Images.{durable_settles}
use Rattle.message_lines.specs.declared.lines.Lines.{Lines}
use Rattle.log_groups.specs.Images.{IsAtRest, IsLog}
use Rattle.schedule_runs.specs.Standing.{IsDone, IsLeftOnWay, IsStopped}
use Rattle.schedule_runs.specs.Ways.{Comes, next_event}
use Rattle.fp_system.specs.inside.Answers.{status_of_stop}
use Rattle.fp_system.specs.Courses.{EndsAt, Input, MayWant}
use Rattle.fp_system.specs.inside.Courses.{RanFrom}
use Rattle.command_tasks.specs.Parts.{Job, rules_for}
use Rattle.command_tasks.specs.declared.status.Status.{Status}
use Rattle.command_tasks.specs.declared.status.Status.TheVariants.{Done}
use Rattle.fp_system.proofs.Ways.{drop_least, goes_rest}

-- ---- a disk that is at rest

module _ (job : Job) (origin : Origin) (here : Machine) (most : ℕ) (disk : Disk) (gate : ℕ)
    (rest : IsAtRest disk origin.front (origin.groups ++ here.groups) gate) where
  -- it has the groups of the machine, and no more
  groups_at : (image : List ℕ) → image ≡ disk.contents 0
      → HasGroups origin (rules_for job) here most here.sent image
  groups_at image same = record {
    times = 0;
    few = omega arith;
    gate = gate;
    log = subst (λ (bytes : List ℕ). IsLog origin.front bytes (origin.groups ++ here.groups) gate) (sym same) rest.log;
    lines = record { more = []; rest = []; from = sym (append-nil here.sent); to = sym (append-nil here.sent) };
  }

  -- so it is one that a step from there may end with
  pub within_at : (old : Disk) → disk.sent ≡ origin.sent ++ here.sent
      → ((set : ℕ) → ¬ (set ≡ 0) → disk.contents set ≡ old.contents set)
      → IsWithin origin (rules_for job) here most old disk
  within_at old sent others = record {
    text = here.sent;
    sent = sent;
    groups = λ image settles. groups_at image (durable_settles disk 0 image rest.durable settles);
    others = others;
  }

-- ---- where a step ended it

-- want of memory ends only a step that may want some
memory_wanted : (here : Machine) (e : Event) → ((region : ℕ) → e ≡ event.Region region → region_at here region ≡ Some
    Idle) → MayStop e here.held stop.Memory → MayWant e here
memory_wanted here event.In idle may = tt
memory_wanted here (event.Region region) idle may = idle region refl
memory_wanted here event.Log idle may = tt
memory_wanted here event.Out idle may = absurd may
memory_wanted here event.Ckpt idle may = tt
memory_wanted here (event.Purge set n) idle may = absurd may

module _ (job : Job) (given : Input) (origin : Origin) (h : History) where
  abbrev begun : Machine
  begun = at_rest (rules_for job) given.lines h

  abbrev Ran : Status → Disk → Disk → Type 0
  Ran = RanFrom job given origin h

  -- the lines left are those from the one that isn't taken
  lines_from : (left : List Event) (here : Machine) (number : ℕ)
      → Comes job.defs (rules_for job) given.events begun left here
      → number + length here.lines ≡ 1 + length given.lines → here.lines ≡ drop (number - 1) given.lines
  lines_from left here number comes count =
      let rest = goes_rest (rules_for job) job.defs given.events left begun here comes.environments comes.goes in
      rest.1 ∙ drop_least rest.0 (number - 1) given.lines (omega (arith, count, ap length rest.1, some_line))
    where
      some_line : length here.lines ≤ length given.lines
      some_line = let rest = goes_rest (rules_for job) job.defs given.events left begun here comes.environments
          comes.goes in
          omega (arith, ap length rest.1, length-drop rest.0 given.lines)

  stop_ends : (left : List Event) (here : Machine) (why : Stop)
      → Comes job.defs (rules_for job) given.events begun left here
      → MayStop (next_event left) here.held why
      → ((region : ℕ) → next_event left ≡ event.Region region → region_at here region ≡ Some Idle)
      → ((number : ℕ) → why ≡ stop.LineFault number → number + length here.lines ≡ 1 + length given.lines)
      → EndsAt job given (status_of_stop why) left here
  stop_ends left here stop.LogFault comes may idle first = log_fault_seals (next_event left) here.held may
  stop_ends left here stop.ReadFault comes may idle first =
      let reads = read_fault_reads (next_event left) here.held may in
      record { takes = reads.0; none_held = reads.1 }
  stop_ends left here (stop.LineFault number) comes may idle first =
      let reads = line_fault_reads (next_event left) here.held number may in
      (record { takes = reads.0; none_held = reads.1 }, lines_from left here number comes (first number refl))
  stop_ends left here stop.Memory comes may idle first = memory_wanted here (next_event left) idle may

  abbrev Moments : Disk → Disk → Type 0
  Moments old new = Through old new (IsLeftOnWay origin job.defs (rules_for job) given.events begun old)

  pub ended_early : (old new : Disk) (lines : Lines) (why : Stop)
      → (it : IsStopped origin job.defs (rules_for job) given.events begun old lines new why)
      → ((number : ℕ) → why ≡ stop.LineFault number → number + length it.here.lines ≡ 1 + length given.lines)
      → Moments old new → Ran (status_of_stop why) old new
  ended_early old new lines why it first moments = record {
    left = it.left;
    here = it.here;
    comes = it.comes;
    ends = stop_ends it.left it.here why it.comes it.may it.idle first;
    within = it.within;
    rest = it.rest;
    moments = moments;
  }

  -- ---- where it was done

  pub ended_done : (old new : Disk) (lines : Lines) (bytes : List ℕ) (engine : Engine)
      → IsDone origin job.defs (rules_for job) given.events begun old new lines bytes engine
      → Moments old new → Ran Done old new
  ended_done old new lines bytes engine it moments =
      let at = it.beside.at in
      record {
        left = [];
        here = it.here;
        comes = it.comes;
        ends = (refl, it.drained);
        within = within_at job origin it.here 0 new engine.log.gate at.at_rest old at.sent it.others;
        rest = λ quiet. at.at_rest.durable;
        moments = moments;
      }
