-- At most one answer is due.
use Rattle.std.proofs.Common.{◌≡◌, refl, sym, ap, subst, ◌∙◌, ℕ, List, Option, Some, None}
use Rattle.fp_model.specs.LogText.{first_gate}
use Rattle.fp_model.specs.Items.{AreFit, items_of}
use Rattle.fp_model.specs.declared.log.Entry.{Entry}
use Rattle.fp_model.specs.Groups.{Damage, Groups, HoldsGroups, LogReading, Reads}
use Rattle.fp_model.specs.Lasts.{format_at}
use Rattle.log_groups.proofs.Fronts.{same_gate}
use Rattle.fp_system.proofs.OldLogs.{sound_old_only, sound_old_where}
use Rattle.log_format.proofs.GroupLaws.{one_reading}
use Rattle.fp_restart.proofs.Replays.{one_first_bad, readable_not_bad, sound_begins}
use Rattle.site_audit.specs.Legal.{IsBrokenAt}
use Rattle.site_audit.proofs.Readings.{legal_or_not, one_illegal}
use Rattle.log_groups.specs.Images.{HoldsFor}
use Rattle.fp_system.specs.Table.{Given, Asks, ByEntries, ByGroups, ByLog, IsDue, IsDueTo, IsEnd, IsGood, end_of_lines, faulty_line}
use Rattle.fp_system.specs.Table.{asked, broken, damaged, foreign, good, illegal, legal, lines, no_command, of_none, of_others, old, refused, torn, whole}
use Rattle.command_tasks.specs.Parts.{Job, Refuses, front_for, front_in}
use Rattle.fp_source.specs.declared.part.Part.TheVariants as part
use Rattle.command_words.specs.Words.{command_of}
use Rattle.command_tasks.specs.declared.status.Status.{Status}
use Rattle.command_tasks.specs.declared.status.Status.TheVariants.{Damaged, Done, Illegal, OldFormat}
use Rattle.command_words.specs.declared.words.Command.{Command}
use Rattle.command_words.specs.declared.words.Command.TheVariants.{Define, Run, Show, Log, Migrate, Audit}
use Rattle.command_tasks.proofs.Jobs.{one_job, one_answer, no_job_refused}
use Rattle.fp_system.specs.Courses.{IsSoundFor}

-- ---- the log

-- of a log one answer, where what stands behind a good one is one
pub one_by_log : (job : Job) (log : List ℕ) (behind : Status → Type 0) → ((a b : Status) → behind a → behind b → a ≡ b)
    → (a b : Status) → ByLog job log behind a → ByLog job log behind b → a ≡ b
one_by_log job log behind one a b (foreign away) (foreign away2) = refl
one_by_log job log behind one a b (foreign away) (damaged bad) = absurd (away bad.begins)
one_by_log job log behind one a b (foreign away) (good is q) = absurd (away is.begins)
one_by_log job log behind one a b (damaged bad) (foreign away) = absurd (away bad.begins)
one_by_log job log behind one a b (damaged {at = at} bad) (damaged {at = at2} bad2) =
    ap (λ (place : ℕ). Damaged 0 place)
    (one_first_bad job.defs log (first_gate (front_for job)) at2 at bad2.bad bad.bad)
one_by_log job log behind one a b (damaged {at = at} bad) (good is q) =
    absurd (readable_not_bad job.defs log (first_gate (front_for job)) at is.readable bad.bad)
one_by_log job log behind one a b (good is p) (foreign away) = absurd (away is.begins)
one_by_log job log behind one a b (good is p) (damaged {at = at} bad) =
    absurd (readable_not_bad job.defs log (first_gate (front_for job)) at is.readable bad.bad)
one_by_log job log behind one a b (good is p) (good is2 q) = one a b p q

-- and of its groups
places_are_one : (job : Job) (log : List ℕ) (r s : LogReading) → Reads log (first_gate (front_for job)) r
    → Reads log (first_gate (front_for job)) s → r ≡ s
places_are_one job log r s p q = one_reading log (first_gate (front_for job)) r s p q

pub one_by_groups : (job : Job) (log : List ℕ) (a b : Status) → ByGroups job log a → ByGroups job log b → a ≡ b
one_by_groups job log a b (of_others away) (of_others away2) = refl
one_by_groups job log a b (of_others away) (broken groups begins holds bad) = absurd (away begins)
one_by_groups job log a b (of_others away) (whole groups gate holds) = absurd (away holds.begins)
one_by_groups job log a b (broken groups begins holds bad) (of_others away) = absurd (away begins)
one_by_groups job log a b (broken gs {at = at} begins holds bad) (broken hs {at = at2} begins2 holds2 bad2) =
    ap (λ (place : ℕ). Damaged 0 place)
    (same_damage (places_are_one job log (Damage at) (Damage at2) (gs, holds, bad) (hs, holds2, bad2)))
  where
    same_damage : Damage at ≡ Damage at2 → at ≡ at2
    same_damage e = cc
one_by_groups job log a b (broken gs {at = at} begins holds bad) (whole hs gate is) =
    not_both (places_are_one job log (Damage at) (Groups hs gate) (gs, holds, bad) is.reads)
  where
    not_both : Damage at ≡ Groups hs gate → a ≡ b
    not_both e = absurd cc
one_by_groups job log a b (whole hs gate is) (of_others away) = absurd (away is.begins)
one_by_groups job log a b (whole hs gate is) (broken gs {at = at} begins holds bad) =
    not_both (places_are_one job log (Damage at) (Groups hs gate) (gs, holds, bad) is.reads)
  where
    not_both : Damage at ≡ Groups hs gate → a ≡ b
    not_both e = absurd cc
one_by_groups job log a b (whole gs gate is) (whole hs gate2 is2) = refl

-- and of its entries
torn_reads : (job : Job) (log : List ℕ) (at : ℕ) → IsBrokenAt (front_for job) log at
    → Reads log (first_gate (front_for job)) (Damage at)
torn_reads job log at bad = (bad.groups, bad.holds, bad.damaged)

torn_or_whole : {P : Type 0} (job : Job) (log : List ℕ) (at : ℕ) (groups : List (List Entry)) (gate : ℕ)
    → IsBrokenAt (front_for job) log at → HoldsFor (front_for job) log groups gate → P
torn_or_whole {P = P} job log at groups gate bad holds =
    not_both (places_are_one job log (Damage at) (Groups groups gate) (torn_reads job log at bad) holds.reads)
  where
    not_both : Damage at ≡ Groups groups gate → P
    not_both e = absurd cc

pub one_by_entries : (job : Job) (log : List ℕ) (a b : Status) → ByEntries job log a → ByEntries job log b → a ≡ b
one_by_entries job log a b (of_none away) (of_none away2) = refl
one_by_entries job log a b (of_none away) (torn bad) = absurd (away bad.begins)
one_by_entries job log a b (of_none away) (illegal is) = absurd (away is.holds.begins)
one_by_entries job log a b (of_none away) (legal is) = absurd (away is.holds.begins)
one_by_entries job log a b (torn bad) (of_none away) = absurd (away bad.begins)
one_by_entries job log a b (torn {at = at} bad) (torn {at = at2} bad2) =
    ap (λ (place : ℕ). Damaged 0 place)
    (same_damage (places_are_one job log (Damage at) (Damage at2) (torn_reads job log at bad)
    (torn_reads job log at2 bad2)))
  where
    same_damage : Damage at ≡ Damage at2 → at ≡ at2
    same_damage e = cc
one_by_entries job log a b (torn {at = at} bad) (illegal is) =
    torn_or_whole job log at is.groups is.gate bad is.holds
one_by_entries job log a b (torn {at = at} bad) (legal is) = torn_or_whole job log at is.groups is.gate bad is.holds
one_by_entries job log a b (illegal is) (of_none away) = absurd (away is.holds.begins)
one_by_entries job log a b (illegal is) (torn {at = at} bad) =
    torn_or_whole job log at is.groups is.gate bad is.holds
one_by_entries job log a b (illegal {entry = x} is) (illegal {entry = y} is2) =
    ap (λ (place : ℕ). Illegal place) (one_illegal job.defs job.scripts (front_for job) log x y is is2)
one_by_entries job log a b (illegal {entry = x} is) (legal {count = n} is2) =
    absurd (legal_or_not job.defs job.scripts (front_for job) log n x is2 is)
one_by_entries job log a b (legal is) (of_none away) = absurd (away is.holds.begins)
one_by_entries job log a b (legal is) (torn {at = at} bad) = torn_or_whole job log at is.groups is.gate bad is.holds
one_by_entries job log a b (legal {count = n} is) (illegal {entry = x} is2) =
    absurd (legal_or_not job.defs job.scripts (front_for job) log n x is is2)
one_by_entries job log a b (legal is) (legal is2) = refl

-- a run ends in one way behind a good log
one_end : (job : Job) (log messages : List ℕ) (a b : Status) → IsEnd job log messages a → IsEnd job log messages b
    → a ≡ b
one_end job log messages a b (old first) (old first2) = refl
one_end job log messages a b (old first) (lines new) = absurd (new first)
one_end job log messages a b (lines new) (old first) = absurd (new first)
one_end job log messages a b (lines new) (lines new2) = refl

-- ---- the commands

one_due_to : (command : Command) (job : Job) (g : Given) (a b : Status) → IsDueTo command job g a
    → IsDueTo command job g b → a ≡ b
one_due_to Define job g a b p q = p ∙ sym q
one_due_to Run job g a b p q =
    one_by_log job (g.contents 0) (IsEnd job (g.contents 0) (g.left part.Messages))
    (one_end job (g.contents 0) (g.left part.Messages)) a b p q
one_due_to Show job g a b p q =
    one_by_log job (g.contents 0) (λ behind. behind ≡ Done) (λ x y h k. h ∙ sym k) a b p q
one_due_to Log job g a b p q = one_by_groups job (g.contents 0) a b p q
one_due_to Migrate job g a b p q =
    one_by_log job (g.contents 0) (λ behind. behind ≡ Done) (λ x y h k. h ∙ sym k) a b p q
one_due_to Audit job g a b p q = one_by_entries job (g.contents 0) a b p q

same_command : (found : Option Command) (c d : Command) → found ≡ Some c → found ≡ Some d → c ≡ d
same_command found c d p q = cc

none_or_one : {Any : Type 0} (found : Option Command) (c : Command) → found ≡ None → found ≡ Some c → Any
none_or_one found c p q = absurd cc

-- ---- the whole

pub one_due : (g : Given) (a b : Status) → IsDue g a → IsDue g b → a ≡ b
one_due g a b (no_command p) (no_command q) = refl
one_due g a b (no_command p) (refused {command = c} is q) = none_or_one (command_of g.words) c p is
one_due g a b (no_command p) (asked {command = c} asks q) = none_or_one (command_of g.words) c p asks.command_is
one_due g a b (refused {command = c} is p) (no_command q) = none_or_one (command_of g.words) c q is
one_due g a b (refused {command = c} is p) (refused {command = d} is2 q) =
    one_answer g.kinds g.left c a b p
    (subst (λ (x : Command). Refuses g.kinds g.left x b) (same_command (command_of g.words) d c is2 is) q)
one_due g a b (refused {command = c} is p) (asked {command = d} {job = job} asks q) =
    no_job_refused g.kinds g.left job d a asks.job_is asks.schedule_is
    (subst (λ (x : Command). Refuses g.kinds g.left x a) (same_command (command_of g.words) c d is asks.command_is) p)
one_due g a b (asked {command = c} asks p) (no_command q) = none_or_one (command_of g.words) c q asks.command_is
one_due g a b (asked {command = d} {job = job} asks p) (refused {command = c} is q) =
    no_job_refused g.kinds g.left job d b asks.job_is asks.schedule_is
    (subst (λ (x : Command). Refuses g.kinds g.left x b) (same_command (command_of g.words) c d is asks.command_is) q)
one_due g a b (asked {command = c} {job = job} asks p) (asked {command = d} {job = job2} asks2 q) =
    let same : d ≡ c = same_command (command_of g.words) d c asks2.command_is asks.command_is in
    let same2 : job2 ≡ job = one_job g.kinds g.left job2 job asks2.job_is asks.job_is in
    one_due_to c job g a b p
    (subst (λ (x : Command). IsDueTo x job g b) same (subst (λ (j : Job). IsDueTo d j g b) same2 q))

-- ---- a sound log

-- it is the job's, and good
sound_good : (job : Job) (format : ℕ) (log : List ℕ) (entries : List Entry)
    → IsSoundFor job format log entries → IsGood job log
sound_good job format log entries sound = record {
  begins = record {
    format = format;
    is_format = sound.is_format;
    begins = sound_begins job.defs job.scripts (front_in format job) log entries sound;
  };
  readable = record {
    groups = sound.groups;
    gate = sound.gate;
    holds = record {
      holds =
          subst (λ (n : ℕ). HoldsGroups log n sound.groups sound.gate) (same_gate format (front_for job))
          sound.holds.reads.0;
      fit = subst (λ (l : List Entry). AreFit job.defs (items_of l)) sound.all sound.fit;
    };
    closed = sound.holds.reads.1;
  };
}

-- so that its run is due the end of its lines, where they may have numbers,
pub lines_due : (g : Given) (job : Job) (format : ℕ) (entries : List Entry) → Asks g Run job
    → IsSoundFor job format (g.contents 0) entries → ¬ (format_at format entries ≡ 1)
    → IsDue g (end_of_lines (faulty_line (g.left part.Messages)))
lines_due g job format entries asks sound new =
    asked asks (good (sound_good job format (g.contents 0) entries sound)
    (lines (λ it. new (sound_old_only job format (g.contents 0) entries sound it))))

-- and else is told to be migrated first
pub old_due : (g : Given) (job : Job) (format : ℕ) (entries : List Entry) → Asks g Run job
    → IsSoundFor job format (g.contents 0) entries → format_at format entries ≡ 1 → IsDue g OldFormat
old_due g job format entries asks sound first =
    asked asks (good (sound_good job format (g.contents 0) entries sound)
    (old (sound_old_where job format (g.contents 0) entries sound first)))
