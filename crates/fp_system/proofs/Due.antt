-- What a run is due, of what restarting and serving come to.
use Rattle.std.proofs.Common.{◌≡◌, ◌⊎◌, ◌∙◌, inl, inr, refl, sym, ap, subst, ℕ, List, Some, None}
use Rattle.std.specs.Prelude.{Option}
use Rattle.fp_model.specs.LogText.{Front, first_gate}
use Rattle.fp_restart.specs.Replayed.{IsFirstBadAt}
use Rattle.fp_restart.proofs.Replays.{readable_not_bad}
use Rattle.fp_restart.specs.declared.fault.RestartFault.{RestartFault}
use Rattle.fp_restart.specs.declared.fault.RestartFault.TheVariants as fault
use Rattle.log_groups.specs.Images.{BeginsFor, as_front}
use Rattle.command_tasks.specs.declared.parts.Setup.{Setup}
use Rattle.command_tasks.specs.Answers.{IsEarly, IsOfLog, IsOfParts, MayStandIn}
use Rattle.fp_system.specs.Table.{ByLog, IsEnd, IsGood, IsOld, IsSpared, damaged, end_of_lines, faulty_line, foreign, good}
use Rattle.fp_system.specs.inside.Answers.{status_of_fault, status_of_stop}
use Rattle.fp_core.specs.declared.stop.Stop.{Stop}
use Rattle.fp_core.specs.declared.stop.Stop.TheVariants as stop
use Rattle.command_tasks.specs.Parts.{Job, front_for}
use Rattle.command_tasks.specs.Setups.{IsSetup, job_of}
use Rattle.fp_system.specs.Table as table
use Rattle.command_tasks.specs.declared.status.Status.{Status}
use Rattle.command_tasks.specs.declared.status.Status.TheVariants.{Done, Damaged, Line, OldFormat}

-- a good log isn't spared
pub not_spared : (job : Job) (log : List ℕ) → IsGood job log → IsSpared job log → ⊥
not_spared job log it (inl away) = away it.begins
not_spared job log it (inr (at, bad)) =
    readable_not_bad job.defs log (first_gate (front_for job)) at it.readable bad.bad

-- What another's log or a bad one is due, it is due whatever stands behind a good one.
pub judged_due : (job : Job) (log : List ℕ) (ends : Status → Type 0) (answer : Status)
    → ByLog job log (λ behind. ⊥) answer ⊎ MayStandIn answer → ByLog job log ends answer ⊎ MayStandIn answer
judged_due job log ends answer (inl (foreign away)) = inl (foreign away)
judged_due job log ends answer (inl (damaged bad)) = inl (damaged bad)
judged_due job log ends answer (inl (good it never)) = absurd never
judged_due job log ends answer (inr stands) = inr stands

-- a fault of storage
pub fault_due : (setup : Setup) → IsSetup setup → (log : List ℕ) (why : RestartFault)
    → (why ≡ fault.Foreign → ¬ (BeginsFor (as_front setup.front) log))
    → ((set at : ℕ) → why ≡ fault.Damaged set at → (set ≡ 0) × BeginsFor (as_front setup.front) log
    × IsFirstBadAt setup.defs log (first_gate (as_front setup.front)) at)
    → ByLog (job_of setup) log (λ behind. ⊥) (status_of_fault why) ⊎ MayStandIn (status_of_fault why)
fault_due setup is log fault.Foreign away bad =
    inl (foreign (subst (λ (front : Front). ¬ (BeginsFor front log)) is.front (away refl)))
fault_due setup is log fault.SiteFault away bad = inr tt
fault_due setup is log (fault.Damaged set at) away bad =
    let its = bad set at refl in
    let here : ByLog (job_of setup) log (λ behind. ⊥) (Damaged 0 at) = damaged (record {
      begins = subst (λ (front : Front). BeginsFor front log) is.front its.1;
      bad = subst (λ (front : Front). IsFirstBadAt setup.defs log (first_gate front) at) is.front its.2;
    }) in
    inl (subst (λ (s : ℕ). ByLog (job_of setup) log (λ behind. ⊥) (Damaged s at)) (sym its.0) here)
fault_due setup is log fault.Memory away bad = inr tt

-- ---- a run of a good log

module _ (job : Job) (log messages : List ℕ) (it : IsGood job log) where
  abbrev Due : Status → Type 0
  Due answer = ByLog job log (IsEnd job log messages) answer ⊎ MayStandIn answer

  -- a log of format 1
  pub old_due : IsOld job log → Due OldFormat
  old_due first = inl (good it (table.old first))

  module _ (new : ¬ (IsOld job log)) where
    ends_with : (line : Option ℕ) → faulty_line messages ≡ line → Due (end_of_lines line)
    ends_with line is = inl (good it (subst (IsEnd job log messages) (ap end_of_lines is) (table.lines new)))

    -- what stops a run in its lines
    stop_due : (why : Stop) → ((number : ℕ) → status_of_stop why ≡ Line number → faulty_line messages ≡ Some number)
        → Due (status_of_stop why)
    stop_due stop.LogFault line = inr tt
    stop_due stop.ReadFault line = inr tt
    stop_due (stop.LineFault number) line = ends_with (Some number) (line number refl)
    stop_due stop.Memory line = inr tt

    -- how a run ends that came to its core
    pub ended_due : (answer : Status) → (answer ≡ Done) ⊎ ((why : Stop) × (answer ≡ status_of_stop why))
        → (answer ≡ Done → faulty_line messages ≡ None)
        → ((number : ℕ) → answer ≡ Line number → faulty_line messages ≡ Some number) → Due answer
    ended_due answer (inl e) all line = subst Due (sym e) (ends_with None (all e))
    ended_due answer (inr (why, e)) all line = subst Due (sym e) (stop_due why (λ number is. line number (e ∙ is)))

-- a fault of storage that isn't of the log's bytes
pub fault_stands : (f : RestartFault) → (f ≡ fault.Foreign → ⊥)
    → ((set at : ℕ) → f ≡ fault.Damaged set at → ⊥) → MayStandIn (status_of_fault f)
fault_stands fault.Foreign away harm = absurd (away refl)
fault_stands fault.SiteFault away harm = tt
fault_stands (fault.Damaged set at) away harm = absurd (harm set at refl)
fault_stands fault.Memory away harm = tt

-- ---- answers that end no lines

-- a run that came to its core has no early answer
pub late : (answer : Status) → (answer ≡ Done) ⊎ ((why : Stop) × (answer ≡ status_of_stop why)) → IsEarly answer → ⊥
late answer (inl e) early = subst IsEarly e early
late answer (inr (why, e)) early = not_early why (subst IsEarly e early)
  where
    not_early : (why : Stop) → IsEarly (status_of_stop why) → ⊥
    not_early stop.LogFault early = early
    not_early stop.ReadFault early = early
    not_early (stop.LineFault number) early = early
    not_early stop.Memory early = early

-- nor one to its log
pub not_of_log : (answer : Status) → (answer ≡ Done) ⊎ ((why : Stop) × (answer ≡ status_of_stop why))
    → IsOfLog answer → ⊥
not_of_log answer (inl e) of = subst IsOfLog e of
not_of_log answer (inr (why, e)) of = no_stop why (subst IsOfLog e of)
  where
    no_stop : (why : Stop) → IsOfLog (status_of_stop why) → ⊥
    no_stop stop.LogFault of = of
    no_stop stop.ReadFault of = of
    no_stop (stop.LineFault number) of = of
    no_stop stop.Memory of = of

pub fault_not_done : {Any : Type 0} (f : RestartFault) → status_of_fault f ≡ Done → Any
fault_not_done fault.Foreign e = absurd cc
fault_not_done fault.SiteFault e = absurd cc
fault_not_done (fault.Damaged set at) e = absurd cc
fault_not_done fault.Memory e = absurd cc

pub parts_not_done : {Any : Type 0} (answer : Status) → IsOfParts answer → answer ≡ Done → Any
parts_not_done answer of e = absurd (subst IsOfParts e of)

-- a line that stops a run is the one that its step named
pub stop_line : (why : Stop) (number : ℕ) → status_of_stop why ≡ Line number → why ≡ stop.LineFault number
stop_line stop.LogFault number e = absurd cc
stop_line stop.ReadFault number e = absurd cc
stop_line (stop.LineFault n) number e = cc
stop_line stop.Memory number e = absurd cc
