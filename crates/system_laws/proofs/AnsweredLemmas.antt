-- A run that is done is a run from rest that drained, and it sealed and sent all.
use Rattle.std.proofs.Common.{◌≡◌, ⊎_elim, refl, sym, ap, subst, ◌∙◌, arith, ℕ, ◌≤◌, List, [], ◌∷◌, ◌++◌, length}
use Rattle.std.proofs.lemmas.List.{append-nil, length-append}
use Rattle.fp_core.specs.Standing.{IsBetween, seals_of}
use Rattle.fp_defs.proofs.WholeKeeps.{are_defs}
use Rattle.fp_exits.specs.Kinds.{Kinds}
use Rattle.fp_model.specs.declared.events.Event.{Event}
use Rattle.fp_model.specs.declared.log.Entry.{Entry}
use Rattle.fp_model.specs.Groups.{entries_of}
use Rattle.fp_model.specs.Machine.{Machine, at_rest}
use Rattle.fp_model.specs.WellFormed.{AreDefs}
use Rattle.fp_site.specs.Disk.{Disk}
use Rattle.fp_source.specs.declared.part.Part.{Part}
use Rattle.fp_source.specs.declared.part.Part.TheVariants as part
use Rattle.line_laws.specs.Answered.{AreAnswered}
use Rattle.run_laws.specs.Starts.{IsFromSerial}
use Rattle.schedule_runs.specs.Ways.{next_event}
use Rattle.system_laws.specs.Answered.{AnswersEachLine}
use Rattle.fp_core.specs.Sparing.{IsSealing}
use Rattle.fp_system.specs.Courses.{Course, Input, IsEnded, IsSoundFor, with_seals}
use Rattle.fp_system.specs.Gives.{Went}
use Rattle.command_tasks.specs.Parts.{IsJob, Job, rules_for}
use Rattle.command_tasks.specs.declared.status.Status.TheVariants.{Done}
use Rattle.command_tasks.proofs.Jobs.{read_for}
use Rattle.fp_system.proofs.Ways.{goes_runs}
use Rattle.model_laws.proofs.Entries.{entries-append}

-- the definitions of a job are well formed
pub defs_are : (kinds : Kinds) (left : Part → List ℕ) (job : Job) → IsJob kinds left job → AreDefs job.defs
defs_are kinds left job is =
    are_defs (left part.Definitions) job.defs (read_for kinds (left part.Definitions) job.defs is.definitions)

-- the course of a run is one from rest behind a serial history
abbrev pub run_of : (job : Job) (format : ℕ) (given : Input) (earlier : List Entry) (left : List Event) (here : Machine)
    → Course job format given earlier left here → IsFromSerial (rules_for job) here
run_of job format given earlier left here course =
    let comes = course.comes in
    let steps = goes_runs job.defs (rules_for job) given.events left (at_rest (rules_for job) given.lines course.behind)
    here
    comes.environments comes.goes in
    record {
      from = record { lines = given.lines; start = course.behind; steps = steps.0; runs = steps.1 };
      is_serial = course.history.is_serial;
    }

-- a text between another and itself is that one
same_text : (first text : List ℕ) → IsBetween first text first → text ≡ first
same_text first text it =
    let more_none : length it.more ≡ 0 =
    omega (arith, ap length it.from ∙ length-append first it.more, ap length it.to ∙ length-append text it.rest) in
    it.from ∙ ap (λ (t : List ℕ). first ++ t) (none it.more more_none) ∙ append-nil first
  where
    none : (xs : List ℕ) → length xs ≡ 0 → xs ≡ []
    none [] e = refl
    none (x ∷ xs) e = absurd cc

module _ (job : Job) (format : ℕ) (given : Input) (earlier : List Entry) (old new : Disk)
    (went : Went job format given earlier Done old new) where
  -- a run that is done was begun
  pub end : IsEnded job format given Done went.before went.point new
  end = ⊎_elim (λ none. absurd none.in_place) (λ is. is) went.ended

  -- no group is sealed beyond those of the machine
  no_more : went.log.times ≡ 0
  no_more =
      let few = subst (λ (l : List Event). went.log.times ≤ seals_of (next_event l) went.point.here) end.ends.0
      went.log.few in
      omega (arith, few)

  pub its_text : went.point.text ≡ went.point.here.sent
  its_text =
      same_text went.point.here.sent went.point.text
      (subst (λ (n : ℕ). IsBetween went.point.here.sent went.point.text (with_seals job went.point n).sent) no_more
      went.log.told)

  pub answers_each : AreAnswered (rules_for job) given.lines went.course.behind.entries went.point.here
      → AnswersEachLine job format given.lines earlier old new
  answers_each all =
      let groups = (with_seals job went.point went.log.times).groups in
      let sealed : entries_of groups ≡ all.later =
      ap (λ (n : ℕ). entries_of (with_seals job went.point n).groups) no_more ∙ all.sealed in
      record {
        later = all.later;
        in_order = all.in_order;
        sound =
            subst (IsSoundFor job format (new.contents 0))
            (entries-append went.before groups ∙ ap (λ (es : List Entry). es ++ entries_of groups) went.stood
            ∙ ap (λ (es : List Entry). earlier ++ es) sealed) went.log.sound;
        durable = end.rest (subst (λ (l : List Event). ¬ IsSealing (next_event l)) (sym end.ends.0) (λ s. s));
        sent = went.sent ∙ ap (λ (t : List ℕ). old.sent ++ t) (its_text ∙ all.sent);
      }
