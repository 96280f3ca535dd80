-- What the texts that were sent say of a job.
use Rattle.std.proofs.Common.{◌≡◌, ◌∙◌, ◌++◌, arith, ap, sym, subst, refl, inl, inr, ℕ, List, [], ◌∷◌}
use Rattle.std.specs.Prelude.{◌⊎◌, ◌+◌, ◌≤◌, length, Err, IsErrOf, Ok, OnOk, Result}
use Rattle.std.proofs.lemmas.List.{append-nil}
use Rattle.fp_model.specs.declared.database.Db.{Db}
use Rattle.fp_model.specs.declared.definitions.DedbDef.{DedbDef}
use Rattle.fp_model.specs.declared.definitions.Defs.{Defs}
use Rattle.fp_model.specs.LogText.{Front, first_gate, front_rest}
use Rattle.fp_model.specs.SerialHistory.{IsSerialHistory}
use Rattle.fp_model.specs.declared.log.Entry.{Entry}
use Rattle.log_groups.specs.Images.{BeginsFor, as_front, in_format}
use Rattle.log_groups.specs.Kept.{IsSound}
use Rattle.fp_restart.specs.Replayed.{IsFirstBadAt}
use Rattle.fp_restart.specs.declared.fault.RestartFault.{RestartFault}
use Rattle.fp_restart.specs.declared.fault.RestartFault.TheVariants as fault
use Rattle.fp_show.specs.DbText.{db_text, dedb_text, each_text}
use Rattle.fp_site.specs.Disk.{Disk, IsDurable, IsLawful, Sends, Snapshot}
use Rattle.fp_site.proofs.Runs.{elapses_none, started}
use Rattle.site_texts.specs.Sent.{SyncsAndSends}
use Rattle.site_texts.specs.Texts.{IsDbSent, IsLogSent, IsSentToDamage, ReadsOnce, SendsDb, SendsGroups, msdbs_text}
use Rattle.command_tasks.specs.Answers.{MayStandIn}
use Rattle.fp_system.specs.inside.Answers.{answer_of, status_of_fault}
use Rattle.command_tasks.specs.Setups.{IsSetup, job_of}
use Rattle.command_tasks.specs.declared.parts.Setup.{Setup}
use Rattle.fp_system.specs.Gives.{Logged, Shown}
use Rattle.command_tasks.specs.Parts.{Job, front_for, rules_for}
use Rattle.fp_system.specs.Table.{ByGroups, ByLog, IsForeign, IsGood, broken, good, of_others, whole}
use Rattle.command_tasks.specs.declared.status.Status.{Status}
use Rattle.command_tasks.specs.declared.status.Status.TheVariants.{Damaged, Done}
use Rattle.fp_system.proofs.Due.{fault_due, fault_not_done, judged_due}
use Rattle.fp_system.proofs.Restarted.{sound_for}

-- where no data entry database is defined, the main storage databases are the whole text
pub whole_text : (defs : Defs) (db : Db) → defs.dedbs ≡ [] → msdbs_text defs db.msdbs ≡ db_text defs db
whole_text defs db none =
    sym (append-nil (msdbs_text defs db.msdbs))
    ∙ ap (λ (ds : List DedbDef). msdbs_text defs db.msdbs ++ each_text dedb_text ds db.dedbs) (sym none)

-- a log whose text was sent is good
pub good_text : (job : Job) (old new : Disk) → IsDbSent job.defs (front_for job) old new → IsGood job (old.contents 0)
good_text job old new sent = record {
  begins = sent.is.begins;
  readable =
      record { groups = sent.is.groups; gate = sent.is.gate; holds = sent.is.holds; closed = sent.is.closed };
}

-- what a fault says of a log's groups
due_by_groups : (job : Job) (old new : Disk) (why : RestartFault) → (why ≡ fault.Foreign
    → IsForeign job (old.contents 0))
    → ((set at : ℕ) → why ≡ fault.Damaged set at → (set ≡ 0) × IsSentToDamage (front_for job) at old new)
    → ByGroups job (old.contents 0) (status_of_fault why) ⊎ MayStandIn (status_of_fault why)
due_by_groups job old new fault.Foreign away bad = inl (of_others (away refl))
due_by_groups job old new fault.SiteFault away bad = inr tt
due_by_groups job old new (fault.Damaged set at) away bad =
    let is = bad set at refl in
    inl (subst (λ (n : ℕ). ByGroups job (old.contents 0) (Damaged n at)) (sym is.0)
    (broken is.1.groups is.1.begins is.1.holds is.1.damaged))
due_by_groups job old new fault.Memory away bad = inr tt

-- no byte was sent
sends_none : (disk : Disk) (s : Snapshot) → disk.may_leave s → SyncsAndSends disk [] s
sends_none disk s left = record {
  before = s;
  left = left;
  log = inl refl;
  others = λ set other. refl;
  count = 0;
  sent = λ told. sym (append-nil s.sent);
}

-- a place of damage is that of a fault
pub damage_is : (why : RestartFault) (at : ℕ) → status_of_fault why ≡ Damaged 0 at → why ≡ fault.Damaged 0 at
damage_is fault.Foreign at e = cc
damage_is fault.SiteFault at e = cc
damage_is (fault.Damaged set place) at e = cc
damage_is fault.Memory at e = cc

-- ---- by what the calls came to

module _ (setup : Setup) (is : IsSetup setup) (old new : Disk) where
  -- the text of the databases
  pub show_due : (r : Result (Unit {0}) RestartFault)
      → OnOk r (IsDbSent setup.defs (as_front setup.front) old new)
      → (IsErrOf r fault.Foreign → (new.sent ≡ old.sent) × ¬ (BeginsFor (as_front setup.front) (old.contents 0)))
      → ((set at : ℕ) → IsErrOf r (fault.Damaged set at) → (new.sent ≡ old.sent) × (set ≡ 0)
      × BeginsFor (as_front setup.front) (old.contents 0)
      × IsFirstBadAt setup.defs (old.contents 0) (first_gate (as_front setup.front)) at)
      → ByLog (job_of setup) (old.contents 0) (λ behind. behind ≡ Done) (answer_of r) ⊎ MayStandIn (answer_of r)
  show_due (Ok x) sent away bad =
      inl (good (good_text (job_of setup) old new (subst (λ (f : Front). IsDbSent setup.defs f old new) is.front sent))
      refl)
  show_due (Err why) sent away bad =
      judged_due (job_of setup) (old.contents 0) (λ behind. behind ≡ Done) (status_of_fault why)
      (fault_due setup is (old.contents 0) why (λ e. (away (ap (λ f. Err f) e)).1)
      (λ set at e. let its = bad set at (ap (λ f. Err f) e) in (its.1, its.2, its.3)))

  pub shown_for : (r : Result (Unit {0}) RestartFault)
      → OnOk r (IsDbSent setup.defs (as_front setup.front) old new) → OnOk r (IsDurable new 0)
      → SendsDb setup.defs (as_front setup.front) old new
      → ((format : ℕ) (entries : List Entry) (last : Db)
      → IsSound setup.defs setup.scripts.scripts (in_format format (as_front setup.front)) (old.contents 0) entries
      → IsSerialHistory (rules_for (job_of setup)) format entries last
      → OnOk r (new.sent ≡ old.sent ++ msdbs_text setup.defs last.msdbs))
      → Shown (job_of setup) (answer_of r) old new
  shown_for (Ok x) sent rests sends means = record {
    whole = λ done. subst (λ (f : Front). IsDbSent setup.defs f old new) is.front sent;
    rests = λ done. rests;
    sends = subst (λ (f : Front). SendsDb setup.defs f old new) is.front sends;
    means = λ format entries last sound history done.
        means format entries last (sound_for setup is format (old.contents 0) entries sound) history
        ∙ ap (λ (text : List ℕ). old.sent ++ text) (whole_text setup.defs last is.no_dedbs);
  }
  shown_for (Err why) sent rests sends means = record {
    whole = λ done. fault_not_done why done;
    rests = λ done. fault_not_done why done;
    sends = subst (λ (f : Front). SendsDb setup.defs f old new) is.front sends;
    means = λ format entries last sound history done. fault_not_done why done;
  }

  -- the text of the groups
  pub log_due : (r : Result (Unit {0}) RestartFault) → OnOk r (IsLogSent (as_front setup.front) old new)
      → (IsErrOf r fault.Foreign → (new.sent ≡ old.sent) × ¬ (BeginsFor (as_front setup.front) (old.contents 0)))
      → ((set at : ℕ) → IsErrOf r (fault.Damaged set at) → (set ≡ 0)
      × IsSentToDamage (as_front setup.front) at old new)
      → ByGroups (job_of setup) (old.contents 0) (answer_of r) ⊎ MayStandIn (answer_of r)
  log_due (Ok x) sent away bad =
      let its = subst (λ (f : Front). IsLogSent f old new) is.front sent in
      inl (whole its.groups its.gate its.holds)
  log_due (Err why) sent away bad =
      due_by_groups (job_of setup) old new why
      (λ e. subst (λ (f : Front). ¬ (BeginsFor f (old.contents 0))) is.front (away (ap (λ f. Err f) e)).1)
      (λ set at e. let its = bad set at (ap (λ f. Err f) e) in
      (its.0, subst (λ (f : Front). IsSentToDamage f at old new) is.front its.1))

  pub logged_for : (r : Result (Unit {0}) RestartFault) → OnOk r (IsLogSent (as_front setup.front) old new)
      → ((set at : ℕ) → IsErrOf r (fault.Damaged set at) → (set ≡ 0)
      × IsSentToDamage (as_front setup.front) at old new)
      → SendsGroups (as_front setup.front) old new → Logged (job_of setup) (answer_of r) old new
  logged_for (Ok x) sent bad sends = record {
    whole = λ done. subst (λ (f : Front). IsLogSent f old new) is.front sent;
    damaged = λ at e. absurd cc;
    sends = subst (λ (f : Front). SendsGroups f old new) is.front sends;
  }
  logged_for (Err why) sent bad sends = record {
    whole = λ done. fault_not_done why done;
    damaged = λ at e.
        subst (λ (f : Front). IsSentToDamage f at old new) is.front
        (bad 0 at (ap (λ f. Err f) (damage_is why at e))).1;
    sends = subst (λ (f : Front). SendsGroups f old new) is.front sends;
  }

-- ---- where nothing was done

pub shown_not : (job : Job) (answer : Status) (disk : Disk) → IsLawful disk → (answer ≡ Done → ⊥)
    → Shown job answer disk disk
shown_not job answer disk law undone = record {
  whole = λ done. absurd (undone done);
  rests = λ done. absurd (undone done);
  sends = record {
    text = [];
    is = inl refl;
    count = 0;
    sent = sym (append-nil disk.sent);
    contents = λ set. refl;
    crash = started (SyncsAndSends disk []) disk law (sends_none disk);
  };
  means = λ format entries last sound history done. absurd (undone done);
}

pub logged_not : (job : Job) (answer : Status) (disk : Disk) → (answer ≡ Done → ⊥)
    → ((at : ℕ) → answer ≡ Damaged 0 at → ⊥) → Logged job answer disk disk
logged_not job answer disk undone unharmed = record {
  whole = λ done. absurd (undone done);
  damaged = λ at e. absurd (unharmed at e);
  sends = record {
    groups = [];
    gate = first_gate (front_for job);
    begins = inl refl;
    holds = record { each = tt; next = omega arith; text = refl };
    sent = record {
      count = 0;
      sent = sym (append-nil disk.sent);
      contents = refl;
      crash = elapses_none disk (Sends disk []);
    };
  };
}

pub read_none : (job : Job) (log : List ℕ) (read : ℕ) → ReadsOnce (front_for job) log read read
read_none job log read = record {
  all = omega arith;
  up_to = λ groups gate holds. omega arith;
  of_others = λ away. omega arith;
}

some_byte : (b : ℕ) (bytes : List ℕ) → 1 ≤ length (b ∷ bytes)
some_byte b bytes = omega arith

-- one byte may be read of each log
pub read_one : (job : Job) (log : List ℕ) (before now : ℕ) → now ≤ before + 1
    → ReadsOnce (front_for job) log before now
read_one job log before now few =
    let some : 1 ≤ first_gate (front_for job) = some_byte 1 (front_rest (front_for job)) in
    record {
      all = omega (arith, few);
      up_to = λ groups gate holds. omega (arith, few);
      of_others = λ away. omega (arith, few, some);
    }
