-- What an audit says of a job.
use Rattle.std.proofs.Common.{◌≡◌, ◌∙◌, ◌++◌, ap, inl, inr, refl, sym, subst, List, ℕ, [], length}
use Rattle.std.specs.Prelude.{◌⊎◌, Err, IfErr, IfOk, IsErrOf, Ok, Result}
use Rattle.std.proofs.lemmas.List.{append-nil}
use Rattle.fp_model.specs.declared.log.Entry.{Entry}
use Rattle.fp_model.specs.LogText.{Front}
use Rattle.fp_site.specs.Disk.{Disk, Sends, Stays}
use Rattle.fp_site.proofs.Runs.{elapses_none}
use Rattle.log_groups.specs.Images.{BeginsFor, as_front, in_format}
use Rattle.log_groups.specs.Kept.{IsSound}
use Rattle.site_audit.specs.Legal.{IsBrokenAt, IsIllegalLog, IsLegalLog}
use Rattle.site_audit.specs.Verdicts.{SendsVerdict, legal_text}
use Rattle.site_audit.specs.declared.fault.AuditFault.{AuditFault}
use Rattle.site_audit.specs.declared.fault.AuditFault.TheVariants as fault
use Rattle.site_texts.specs.Sent.{HasSent}
use Rattle.command_tasks.specs.Answers.{MayStandIn}
use Rattle.fp_system.specs.inside.Answers.{status_of_audit}
use Rattle.command_tasks.specs.Setups.{IsSetup, job_of}
use Rattle.command_tasks.specs.declared.parts.Setup.{Setup}
use Rattle.fp_system.specs.Gives.{Audited}
use Rattle.command_tasks.specs.Parts.{Job}
use Rattle.fp_system.specs.Table.{ByEntries, illegal, legal, of_none, torn}
use Rattle.command_tasks.specs.declared.status.Status.{Status}
use Rattle.command_tasks.specs.declared.status.Status.TheVariants.{Done, Illegal}
use Rattle.fp_system.proofs.Restarted.{sound_for}

-- ---- by what an audit came to

module _ (setup : Setup) (is : IsSetup setup) (old new : Disk) where
  pub audit_due : (r : Result ℕ AuditFault)
      → IfOk r (IsLegalLog setup.defs setup.scripts.scripts (as_front setup.front) (old.contents 0))
      → (IsErrOf r fault.Foreign → ¬ (BeginsFor (as_front setup.front) (old.contents 0)))
      → ((at : ℕ) → IsErrOf r (fault.Damaged at) → IsBrokenAt (as_front setup.front) (old.contents 0) at)
      → ((entry : ℕ) → IsErrOf r (fault.Illegal entry)
      → IsIllegalLog setup.defs setup.scripts.scripts (as_front setup.front) (old.contents 0) entry)
      → ByEntries (job_of setup) (old.contents 0) (status_of_audit r) ⊎ MayStandIn (status_of_audit r)
  audit_due (Ok count) good away broken bad =
      inl (legal (subst (λ (f : Front). IsLegalLog setup.defs setup.scripts.scripts f (old.contents 0) count) is.front
      good))
  audit_due (Err fault.Foreign) good away broken bad =
      inl (of_none (subst (λ (f : Front). ¬ (BeginsFor f (old.contents 0))) is.front (away refl)))
  audit_due (Err fault.SiteFault) good away broken bad = inr tt
  audit_due (Err (fault.Damaged at)) good away broken bad =
      inl (torn (subst (λ (f : Front). IsBrokenAt f (old.contents 0) at) is.front (broken at refl)))
  audit_due (Err (fault.Illegal entry)) good away broken bad =
      inl (illegal (subst (λ (f : Front). IsIllegalLog setup.defs setup.scripts.scripts f (old.contents 0) entry)
      is.front (bad entry refl)))
  audit_due (Err fault.Memory) good away broken bad = inr tt

  pub audited_for : (r : Result ℕ AuditFault)
      → IfOk r (IsLegalLog setup.defs setup.scripts.scripts (as_front setup.front) (old.contents 0))
      → IfOk r (λ count. HasSent old new (legal_text count))
      → IfErr r (λ why. ¬ (why ≡ fault.SiteFault) → Stays old new)
      → SendsVerdict setup.defs setup.scripts.scripts (as_front setup.front) old new
      → ((format entry : ℕ) (entries : List Entry)
      → IsSound setup.defs setup.scripts.scripts (in_format format (as_front setup.front)) (old.contents 0) entries
      → IsErrOf r (fault.Illegal entry) → ⊥)
      → ((format : ℕ) (entries : List Entry)
      → IsSound setup.defs setup.scripts.scripts (in_format format (as_front setup.front)) (old.contents 0) entries
      → IfOk r (λ count. count ≡ length entries))
      → Audited (job_of setup) (status_of_audit r) old new
  audited_for (Ok count) good sent silent sends never means = record {
    legal = λ done. (
      count,
      (
        subst (λ (f : Front). IsLegalLog setup.defs setup.scripts.scripts f (old.contents 0) count) is.front good,
        sent.sent,
      ),
    );
    silent = λ undone. absurd (undone refl);
    sends = subst (λ (f : Front). SendsVerdict setup.defs setup.scripts.scripts f old new) is.front sends;
    never = λ format entry entries sound e. absurd cc;
    means = λ format entries sound done.
        sent.sent
        ∙ ap (λ (n : ℕ). old.sent ++ legal_text n)
        (means format entries (sound_for setup is format (old.contents 0) entries sound));
  }
  audited_for (Err why) good sent silent sends never means = record {
    legal = λ done. audit_not_done why done;
    silent = λ undone calm. silent (λ e. calm (ap (λ (f : AuditFault). status_of_audit {A = ℕ} (Err f)) e));
    sends = subst (λ (f : Front). SendsVerdict setup.defs setup.scripts.scripts f old new) is.front sends;
    never = λ format entry entries sound e.
        never format entry entries (sound_for setup is format (old.contents 0) entries sound)
        (ap (λ f. Err f) (illegal_is why entry e));
    means = λ format entries sound done. audit_not_done why done;
  }
    where
      audit_not_done : {P : Type 0} (why : AuditFault) → status_of_audit {A = ℕ} (Err why) ≡ Done → P
      audit_not_done fault.Foreign e = absurd cc
      audit_not_done fault.SiteFault e = absurd cc
      audit_not_done (fault.Damaged at) e = absurd cc
      audit_not_done (fault.Illegal entry) e = absurd cc
      audit_not_done fault.Memory e = absurd cc

      -- an entry that isn't legal is that of a fault
      illegal_is : (why : AuditFault) (entry : ℕ) → status_of_audit {A = ℕ} (Err why) ≡ Illegal entry
          → why ≡ fault.Illegal entry
      illegal_is fault.Foreign entry e = absurd cc
      illegal_is fault.SiteFault entry e = absurd cc
      illegal_is (fault.Damaged at) entry e = absurd cc
      illegal_is (fault.Illegal place) entry e = cc
      illegal_is fault.Memory entry e = absurd cc

-- where nothing was done
pub audited_not : (job : Job) (answer : Status) (disk : Disk) → (answer ≡ Done → ⊥)
    → ((entry : ℕ) → answer ≡ Illegal entry → ⊥) → Audited job answer disk disk
audited_not job answer disk undone fine = record {
  legal = λ done. absurd (undone done);
  silent = λ other calm. record { contents = refl; sent = refl; crash = elapses_none disk disk.may_leave };
  sends = record {
    text = [];
    is = inl refl;
    sent = record {
      count = 0;
      sent = sym (append-nil disk.sent);
      contents = refl;
      crash = elapses_none disk (Sends disk []);
    };
  };
  never = λ format entry entries sound e. fine entry e;
  means = λ format entries sound done. absurd (undone done);
}
