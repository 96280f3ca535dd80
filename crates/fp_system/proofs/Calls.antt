-- What comes of a call, by its words, its parts, and what its command did.
use Rattle.std.proofs.Common.{◌≡◌, ◌⊎◌, ◌∙◌, ⊎_elim, inl, inr, refl, sym, ap, subst, ℕ, List, [], Option, Some, None}
use Rattle.std.specs.Prelude.{Ok, Result}
use Rattle.std.specs.declared.alloc.AllocError.{AllocError}
use Rattle.command_words.specs.Words.{command_of}
use Rattle.command_words.specs.declared.words.Command.{Command}
use Rattle.command_words.specs.declared.words.Command.TheVariants.{Define, Run, Show, Log, Migrate, Audit}
use Rattle.fp_exits.specs.Kinds.{Kinds}
use Rattle.fp_model.specs.declared.events.Event.{Event}
use Rattle.fp_site.specs.Disk.{Disk, IsLawful}
use Rattle.fp_source.specs.declared.part.Part.{Part}
use Rattle.fp_source.specs.declared.part.Part.TheVariants as part
use Rattle.command_tasks.specs.Answers.{IsEarly, IsOfParts, MayStandIn}
use Rattle.command_tasks.specs.Causes.{IsCaused, IsCausedBySite}
use Rattle.fp_system.specs.Courses.{Input}
use Rattle.fp_system.specs.Gives.{Defined, InOrder, Took}
use Rattle.command_tasks.specs.Parts.{HasSchedule, IsJob, Job, Refuses, definitions_in}
use Rattle.fp_system.specs.Table as table
use Rattle.fp_system.specs.Table.{Asks, Given}
use Rattle.command_tasks.specs.declared.status.Status.{Status}
use Rattle.command_tasks.specs.declared.status.Status.TheVariants.{Done, NoMemory, Usage}
use Rattle.fp_system.specs.inside.Acted.{Acted, Gives, IsLate, IsReadOf, Made, Served, input_of}
use Rattle.fp_system.specs.inside.Answers.{IsOfSite}
use Rattle.command_tasks.specs.Setups.{HasEventsFor}
use Rattle.fp_system.proofs.Audits.{audited_not}
use Rattle.fp_system.proofs.CauseLemmas.{no_read_fault}
use Rattle.fp_system.proofs.Due.{parts_not_done}
use Rattle.command_tasks.proofs.Jobs.{no_job_refused, no_word, not_both, one_job, same_events, schedule_had}
use Rattle.fp_system.proofs.Migrations.{unmigrated}
use Rattle.fp_system.proofs.Runs.{before_site, only_same, unmade, unrun}
use Rattle.fp_system.proofs.SentTexts.{logged_not, shown_not}

-- an option has one value
pub one_command : {o : Option Command} {a b : Command} → o ≡ Some a → o ≡ Some b → a ≡ b
one_command e f = cc

-- ---- commands

-- a command that reads no line, by its answer
pub late_on : (which : Command) (read before now : ℕ) (answer : Status) (is_same : Type 0) → IsOfSite answer
    → IsCausedBySite before now answer → (which ≡ Define → answer ≡ NoMemory → is_same)
    → IsLate which read read before now answer is_same
late_on which read before now answer is_same of cause stayed = record {
  late = of.0;
  cause = record { source = no_read_fault read answer of; site = cause };
  untouched =
      before_site (Some which) answer (λ early. absurd (of.0 early)) (λ fault other. absurd (of.1 fault))
      (λ none named. stayed (one_command refl named) none);
}

-- and takes nothing of the source
pub took_none : (which : Command) (answer : Status) (left : Part → List ℕ) → (which ≡ Run → ⊥)
    → Took (Some which) answer left left
took_none which answer left other = record {
  no_schedule = λ no. refl;
  no_messages = λ no. refl;
  all = λ run done. absurd (other (one_command refl run));
  unread = λ run of. refl;
}

-- So is a run, which makes no log, and reads its source behind the parts.
pub late_run : (read read2 stored stored2 : ℕ) (answer : Status) (is_same : Type 0) → (IsEarly answer → ⊥)
    → IsCaused read read2 stored stored2 answer → IsLate Run read read2 stored stored2 answer is_same
late_run read read2 stored stored2 answer is_same late cause = record {
  late = late;
  cause = cause;
  untouched =
      before_site (Some Run) answer (λ early. absurd (late early)) (λ fault other. absurd (other refl))
      (λ none named. absurd (no_define (one_command named refl)));
}
  where
    no_define : Define ≡ Run → ⊥
    no_define e = cc

-- what is so of a command is so of the one that it is
pub of_same : {which other : Command} (P : Command → Type 0) → which ≡ other → P other → P which
of_same P same it = subst P (sym same) it

-- ---- where nothing was done

-- Parts that are no job, or want of memory: no command gives anything.
gives_not : (which : Command) (job : Job) (given : Input) (answer : Status) (disk : Disk) → IsLawful disk
    → IsOfParts answer → (which ≡ Run → MayStandIn answer) → Gives which job given answer disk disk
gives_not Define job given answer disk law of stands = record {
  only = only_same disk;
  made = λ done. parts_not_done answer of done;
  text = λ done. parts_not_done answer of done;
  crash = unmade _ disk law;
}
gives_not Run job given answer disk law of stands = unrun job given answer disk law (stands refl)
gives_not Show job given answer disk law of stands = shown_not job answer disk law (parts_not_done answer of)
gives_not Log job given answer disk law of stands =
    logged_not job answer disk (parts_not_done answer of) (λ at e. subst IsOfParts e of)
gives_not Migrate job given answer disk law of stands = unmigrated job answer disk law (parts_not_done answer of)
gives_not Audit job given answer disk law of stands =
    audited_not job answer disk (parts_not_done answer of) (λ entry e. subst IsOfParts e of)

-- the words are no command
pub served_usage : (g : Given) (disk : Disk) → command_of g.words ≡ None → Served g Usage disk disk
served_usage g disk none = record {
  due = inl (table.no_command none);
  only = λ named. only_same disk;
  gives = λ which job events asks has. no_word asks.command_is none;
}

-- there was no memory for them
pub served_memory : (g : Given) (disk : Disk) → IsLawful disk → Served g NoMemory disk disk
served_memory g disk law = record {
  due = inr tt;
  only = λ named. only_same disk;
  gives = λ which job events asks has. gives_not which job (input_of g events) NoMemory disk law tt (λ run. tt);
}

module _ (g : Given) (which : Command) (named : command_of g.words ≡ Some which) (answer : Status) where
  -- its parts were refused
  pub served_refused : (disk : Disk) → IsLawful disk → IsOfParts answer
      → MayStandIn answer ⊎ Refuses g.kinds g.left which answer → Served g answer disk disk
  served_refused disk law of refused = record {
    due = ⊎_elim (λ stands. inr stands) (λ why. inl (table.refused named why)) refused;
    only = λ define. only_same disk;
    gives = λ other job events asks has.
        let same = one_command asks.command_is named in
        gives_not other job (input_of g events) answer disk law of (λ run.
        ⊎_elim (λ stands. stands)
        (λ why. no_job_refused g.kinds g.left job which answer asks.job_is
        (subst (λ (c : Command). HasSchedule c job g.left) same asks.schedule_is) why) refused);
  }

  -- ---- what was done

  module _ (job : Job) (is : IsJob g.kinds g.left job) (events : List Event)
      (has : HasEventsFor which job g.left events) where
    pub asks_for : Asks g which job
    asks_for = record { command_is = named; job_is = is; schedule_is = schedule_had which job g.left events has }

    module _ (old new : Disk) (acted : Acted which job events g answer old new) where
      -- what a command gives doesn't hang on how its events are told
      with_events : (c : Command) (j : Job) (others : List Event) → HasEventsFor c j g.left events
          → HasEventsFor c j g.left others → Gives c j (input_of g events) answer old new
          → Gives c j (input_of g others) answer old new
      with_events Define j others has other it = it
      with_events Run j others has other it =
          subst (λ (es : List Event). Gives Run j (input_of g es) answer old new)
          (same_events j g.left events others has other) it
      with_events Show j others has other it = it
      with_events Log j others has other it = it
      with_events Migrate j others has other it = it
      with_events Audit j others has other it = it

      gives_asked : (c : Command) (j : Job) (others : List Event) → which ≡ c → job ≡ j
          → HasEventsFor c j g.left others → Gives c j (input_of g others) answer old new
      gives_asked c j others same one other =
          with_events c j others
          (subst (λ (x : Job). HasEventsFor c x g.left events) one
          (subst (λ (x : Command). HasEventsFor x job g.left events) same has)) other
          (subst (λ (x : Job). Gives c x (input_of g events) answer old new) one
          (subst (λ (x : Command). Gives x job (input_of g events) answer old new) same acted.gives))

      -- a command was done
      pub served_acted : Served g answer old new
      served_acted = record {
        due = ⊎_elim (λ due. inl (table.asked asks_for due)) (λ stands. inr stands) acted.due;
        only = λ define. (gives_asked Define job [] (one_command named define) refl tt).only;
        gives = λ c j others asks other.
            gives_asked c j others (one_command named asks.command_is) (one_job g.kinds g.left job j is asks.job_is)
            other;
      }

-- what `define` gives, whether or not its parts are a job
pub defined : (g : Given) (answer : Status) (old new : Disk) → Served g answer old new
    → command_of g.words ≡ Some Define → Defined g answer old new
defined g answer old new all named = record {
  only = all.only named;
  made = λ job is. (of job is).made;
  text = λ job is. (of job is).text;
  crash = λ job is. (of job is).crash;
}
  where
    of : (job : Job) → IsJob g.kinds g.left job → Made job answer old new
    of job is = all.gives Define job [] (record { command_is = named; job_is = is; schedule_is = tt }) tt

-- ---- what was taken of the source

-- behind the parts
pub took_behind : (found : Option Command) (which : Command) (answer : Status) (old mid new : Part → List ℕ)
    → found ≡ Some which → ((which ≡ Run → ⊥) → mid part.Schedule ≡ old part.Schedule)
    → mid part.Messages ≡ old part.Messages → Took (Some which) answer mid new → Took found answer old new
took_behind found which answer old mid new named schedule messages took = record {
  no_schedule = λ other.
      took.no_schedule (λ run. other (named ∙ run)) ∙ schedule (λ run. other (named ∙ ap (λ c. Some c) run));
  no_messages = λ other. took.no_messages (λ run. other (named ∙ run)) ∙ messages;
  all = λ run done. took.all (sym named ∙ run) done;
  unread = λ run of. took.unread (sym named ∙ run) of ∙ messages;
}

-- of the parts alone, which were refused
pub took_parts : (found : Option Command) (which : Command) (answer : Status) (old new : Part → List ℕ)
    → found ≡ Some which → IsOfParts answer → ((which ≡ Run → ⊥) → new part.Schedule ≡ old part.Schedule)
    → new part.Messages ≡ old part.Messages → Took found answer old new
took_parts found which answer old new named of schedule messages = record {
  no_schedule = λ other. schedule (λ run. other (named ∙ ap (λ c. Some c) run));
  no_messages = λ other. messages;
  all = λ run done. parts_not_done answer of done;
  unread = λ run log. messages;
}

-- ---- the order of the parts

-- Of a job no part is refused, and message lines are read by a run alone, behind its schedule.
pub in_order : (kinds : Kinds) (found : Option Command) (which : Command) (answer : Status) (job : Job)
    (events : List Event) (old new : Part → List ℕ) → found ≡ Some which → IsJob kinds old job
    → HasEventsFor which job old events → Took found answer old new → InOrder kinds found old new
in_order kinds found which answer job events old new named is has took = record {
  words = λ none p. no_word named none;
  scripts = λ other bad. not_both (definitions_in kinds (old part.Definitions)) job.defs other is.definitions bad;
  schedule = λ none. absurd (none (job, is));
  messages = λ none. took.no_messages (λ run. absurd (none (job, is, of_run which (one_command named run) has)));
}
  where
    of_run : (c : Command) → c ≡ Run → HasEventsFor c job old events → HasSchedule Run job old
    of_run c same has = (events, subst (λ (x : Command). HasEventsFor x job old events) same has)

-- ---- words

-- the command that words were read as, if any
pub read_as : (words : List (List ℕ)) (found : Result (Option Command) AllocError) (o : Option Command)
    → found ≡ Ok o → IsReadOf words found → command_of words ≡ o
read_as words found o e is = sym (subst (IsReadOf words) e is)

-- Nothing was read.
pub order_kept : (kinds : Kinds) (found : Option Command) (left : Part → List ℕ) → InOrder kinds found left left
order_kept kinds found left = record {
  words = λ none p. refl;
  scripts = λ answer bad. refl;
  schedule = λ none. refl;
  messages = λ none. refl;
}

pub took_nothing : (found : Option Command) (answer : Status) (left : Part → List ℕ) → ¬ (answer ≡ Done)
    → Took found answer left left
took_nothing found answer left undone = record {
  no_schedule = λ no. refl;
  no_messages = λ no. refl;
  all = λ run done. absurd (undone done);
  unread = λ run of. refl;
}
