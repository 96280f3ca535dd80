-- What a restart of a job's log says of its format.
use Rattle.std.proofs.Common.{◌≡◌, sym, ◌∙◌, subst, ℕ}
use Rattle.fp_model.specs.Groups.{Groups, Reads}
use Rattle.fp_model.specs.LogText.{Front, first_gate}
use Rattle.fp_model.specs.declared.log.Entry.{Entry}
use Rattle.fp_restart.specs.Replayed.{IsReadable, ReadsBack}
use Rattle.fp_restart.specs.Restarts.{StandsFor}
use Rattle.fp_site.specs.Disk.{Disk}
use Rattle.fp_site.specs.Site.{ReadsNothing}
use Rattle.balancing.specs.Numbered.{Numbered}
use Rattle.log_groups.specs.Images.{BeginsFor, as_front, in_format}
use Rattle.log_groups.specs.Kept.{IsSound}
use Rattle.log_groups.specs.Log.{LogState}
use Rattle.log_groups.specs.Reads.{ReadsOnlyLog}
use Rattle.site_texts.specs.Texts.{ReadsOnce}
use Rattle.log_groups.proofs.Fronts.{same_gate}
use Rattle.msdb_store.specs.Store.{Stored}
use Rattle.std.specs.Prelude.{List}
use Rattle.command_tasks.specs.declared.parts.Setup.{Setup}
use Rattle.fp_system.specs.Courses.{IsSoundFor}
use Rattle.command_tasks.specs.Parts.{Job, front_for, front_in}
use Rattle.command_tasks.specs.Setups.{IsSetup, job_of}
use Rattle.fp_system.specs.Table.{IsGood, IsOld}
use Rattle.fp_system.specs.inside.Acted.{IsRestarted}
use Rattle.fp_system.proofs.OldLogs.{old_only, old_where}

module _ (setup : Setup) (is : IsSetup setup) where
  -- a log of the job is one for the setup's front
  pub sound_for : (format : ℕ) (log : List ℕ) (entries : List Entry) → IsSoundFor (job_of setup) format log entries
      → IsSound setup.defs setup.scripts.scripts (in_format format (as_front setup.front)) log entries
  sound_for format log entries sound =
      subst (λ (f : Front). IsSound setup.defs setup.scripts.scripts (in_format format f) log entries) (sym is.front)
      sound

  pub back_for : (format : ℕ) (disk : Disk) (store : Stored) (state : LogState) (lasts : Numbered)
      → ReadsBack setup.defs (in_format format (as_front setup.front)) disk store state lasts
      → ReadsBack setup.defs (front_in format (job_of setup)) disk store state lasts
  back_for format disk store state lasts back =
      subst (λ (f : Front). ReadsBack setup.defs (in_format format f) disk store state lasts) is.front back

  pub stands_for : (format : ℕ) (disk : Disk) (entries : List Entry) (store : Stored) (state : LogState)
      (lasts : Numbered)
      → StandsFor setup.defs setup.scripts.scripts (in_format format (as_front setup.front)) disk entries store state
      lasts
      → StandsFor setup.defs setup.scripts.scripts (front_in format (job_of setup)) disk entries store state lasts
  stands_for format disk entries store state lasts found =
      subst (λ (f : Front). StandsFor setup.defs setup.scripts.scripts (in_format format f) disk entries store state
      lasts) is.front found

  -- a log that begins so and can be read is a good one
  pub good_for : (log : List ℕ) → BeginsFor (as_front setup.front) log
      → IsReadable setup.defs log (first_gate (as_front setup.front)) → IsGood (job_of setup) log
  good_for log begun read = record {
    begins = subst (λ (f : Front). BeginsFor f log) is.front begun;
    readable = subst (λ (f : Front). IsReadable setup.defs log (first_gate f)) is.front read;
  }

  -- so is what was read of it
  pub once_for : {log : List ℕ} {before now : ℕ} → ReadsOnce (as_front setup.front) log before now
      → ReadsOnce (front_for (job_of setup)) log before now
  once_for {log = log} {before = before} {now = now} once =
      subst (λ (f : Front). ReadsOnce f log before now) is.front once

-- What is read no more behind a restart.
pub once_behind : {front : Front} {log : List ℕ} {before mid now : ℕ} → now ≡ mid → ReadsOnce front log before mid
    → ReadsOnce front log before now
once_behind {front = front} {log = log} {before = before} same once = subst (ReadsOnce front log before) (sym same) once

-- Of each data set but the log nothing is read by either.
pub log_behind : {told told1 told2 : ℕ → Type 0} {before mid now : ℕ → ℕ} → ReadsOnlyLog told told1 before mid
    → ReadsNothing told1 told2 mid now → ReadsOnlyLog told told2 before now
log_behind first on set tells =
    let two = on set tells in let one = first set two.0 in (one.0, λ other. two.1 ∙ one.1 other)

module _ (job : Job) (h h1 : Disk) (contents : (set : ℕ) → h1.contents set ≡ h.contents set) (store : Stored)
    (state : LogState) (lasts : Numbered) (it : IsRestarted job h h1 store state lasts) where
  its_reads : Reads (h1.contents 0) (first_gate (front_for job)) (Groups it.back.replayed.groups state.gate)
  its_reads =
      subst (λ (n : ℕ). Reads (h1.contents 0) n (Groups it.back.replayed.groups state.gate))
      (same_gate state.front_format (front_for job)) (it.back.replayed.holds.holds, it.back.closed)

  -- a log that was read is one of format 1 just where its next line is read in it
  pub old_told : state.format ≡ 1 → IsOld job (h.contents 0)
  old_told one =
      subst (IsOld job) (contents 0)
      (old_where job state.front_format (h1.contents 0) it.back.replayed.groups state.gate it.back.begins its_reads
      (sym it.back.replayed.format ∙ one))

  pub new_told : ¬ (state.format ≡ 1) → ¬ (IsOld job (h.contents 0))
  new_told new was =
      new (it.back.replayed.format
      ∙ old_only job state.front_format (h1.contents 0) it.back.replayed.groups state.gate it.back.begins
      its_reads (subst (IsOld job) (sym (contents 0)) was))
