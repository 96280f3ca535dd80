-- What the answers to faults of other crates come of.
use Rattle.std.proofs.Common.{◌≡◌, refl, ap, sym, subst, ℕ}
use Rattle.std.specs.Prelude.{Result, Ok, Err, IsErrOf}
use Rattle.fp_core.specs.Standing.{IsCausedBySite as IsStopBySite, IsCausedBySource as IsStopBySource}
use Rattle.fp_core.specs.declared.stop.Stop.{Stop}
use Rattle.fp_core.specs.declared.stop.Stop.TheVariants as stop
use Rattle.fp_restart.specs.declared.fault.RestartFault.{RestartFault}
use Rattle.fp_restart.specs.declared.fault.RestartFault.TheVariants as fault
use Rattle.fp_lists.specs.Faults.{Counts, Rose}
use Rattle.site_audit.specs.declared.fault.AuditFault.{AuditFault}
use Rattle.site_audit.specs.declared.fault.AuditFault.TheVariants as unsound
use Rattle.fp_system.specs.inside.Answers.{IsOfSite, answer_of, status_of_audit, status_of_fault, status_of_seal, status_of_stop}
use Rattle.command_tasks.proofs.CauseLemmas.{by_source}
use Rattle.command_tasks.specs.Causes.{IsCausedBySite, IsCausedBySource}
use Rattle.command_tasks.specs.declared.status.Status.{Status}
use Rattle.command_tasks.specs.declared.status.Status.TheVariants.{NoMemory}

-- an error is one
pub one_err : {A E : Type 0} {a b : E} (r : Result A E) → r ≡ Err a → r ≡ Err b → a ≡ b
one_err r e f = cc

-- ---- faults that are counted

pub stop_by_source : (before now : ℕ) (why : Stop) → IsStopBySource before now why
    → IsCausedBySource before now (status_of_stop why)
stop_by_source before now stop.LogFault is = is
stop_by_source before now stop.ReadFault is = is
stop_by_source before now (stop.LineFault number) is = is
stop_by_source before now stop.Memory is = is

pub stop_by_site : (before now : ℕ) (why : Stop) → IsStopBySite before now why
    → IsCausedBySite before now (status_of_stop why)
stop_by_site before now stop.LogFault is = is
stop_by_site before now stop.ReadFault is = is
stop_by_site before now (stop.LineFault number) is = is
stop_by_site before now stop.Memory is = is

pub fault_by_site : (before now : ℕ) (why : RestartFault) → (why ≡ fault.SiteFault → Rose before now)
    → ((why ≡ fault.SiteFault → ⊥) → now ≡ before) → IsCausedBySite before now (status_of_fault why)
fault_by_site before now fault.Foreign rose stayed = stayed (λ e. cc)
fault_by_site before now fault.SiteFault rose stayed = rose refl
fault_by_site before now (fault.Damaged set at) rose stayed = stayed (λ e. cc)
fault_by_site before now fault.Memory rose stayed = stayed (λ e. cc)

-- by what a call of storage came to
pub done_by_site : {A : Type 0} (before now : ℕ) (r : Result A RestartFault)
    → (IsErrOf r fault.SiteFault → Rose before now) → ((IsErrOf r fault.SiteFault → ⊥) → now ≡ before)
    → IsCausedBySite before now (answer_of r)
done_by_site before now (Ok x) rose stayed = stayed (λ e. cc)
done_by_site before now (Err why) rose stayed =
    fault_by_site before now why (λ e. rose (ap (λ f. Err f) e)) (λ other. stayed (λ e. other (one_err _ refl e)))

-- a seal
pub seal_by_site : {A E : Type 0} (before now : ℕ) (r : Result A E) (answer : Status) → answer ≡ status_of_seal r
    → Counts before now r → IsCausedBySite before now answer
seal_by_site before now (Ok x) answer is counts = subst (IsCausedBySite before now) (sym is) counts.stayed
seal_by_site before now (Err why) answer is counts = subst (IsCausedBySite before now) (sym is) counts.rose

-- and an audit
pub audit_by_site : {A : Type 0} (before now : ℕ) (r : Result A AuditFault)
    → (IsErrOf r unsound.SiteFault → Rose before now) → ((IsErrOf r unsound.SiteFault → ⊥) → now ≡ before)
    → IsCausedBySite before now (status_of_audit r)
audit_by_site before now (Ok x) rose stayed = stayed (λ e. cc)
audit_by_site before now (Err unsound.Foreign) rose stayed = stayed (λ e. cc)
audit_by_site before now (Err unsound.SiteFault) rose stayed = rose refl
audit_by_site before now (Err (unsound.Damaged at)) rose stayed = stayed (λ e. cc)
audit_by_site before now (Err (unsound.Illegal entry)) rose stayed = stayed (λ e. cc)
audit_by_site before now (Err unsound.Memory) rose stayed = stayed (λ e. cc)

-- only want of memory is answered so
memory_fault : (why : RestartFault) → status_of_fault why ≡ NoMemory → why ≡ fault.Memory
memory_fault fault.Foreign e = absurd cc
memory_fault fault.SiteFault e = absurd cc
memory_fault (fault.Damaged set at) e = absurd cc
memory_fault fault.Memory e = refl

pub memory_done : {A : Type 0} (r : Result A RestartFault) → answer_of r ≡ NoMemory → IsErrOf r fault.Memory
memory_done (Ok x) e = absurd cc
memory_done (Err why) e = ap (λ f. Err f) (memory_fault why e)

-- ---- answers of commands that read no line

pub fault_of_site : (why : RestartFault) → IsOfSite (status_of_fault why)
fault_of_site fault.Foreign = (λ early. early, λ e. cc)
fault_of_site fault.SiteFault = (λ early. early, λ e. cc)
fault_of_site (fault.Damaged set at) = (λ early. early, λ e. cc)
fault_of_site fault.Memory = (λ early. early, λ e. cc)

pub done_of_site : {A : Type 0} (r : Result A RestartFault) → IsOfSite (answer_of r)
done_of_site (Ok x) = (λ early. early, λ e. cc)
done_of_site (Err why) = fault_of_site why

pub audit_of_site : {A : Type 0} (r : Result A AuditFault) → IsOfSite (status_of_audit r)
audit_of_site (Ok x) = (λ early. early, λ e. cc)
audit_of_site (Err unsound.Foreign) = (λ early. early, λ e. cc)
audit_of_site (Err unsound.SiteFault) = (λ early. early, λ e. cc)
audit_of_site (Err (unsound.Damaged at)) = (λ early. early, λ e. cc)
audit_of_site (Err (unsound.Illegal entry)) = (λ early. early, λ e. cc)
audit_of_site (Err unsound.Memory) = (λ early. early, λ e. cc)

-- No read fault is answered by them, so the source's count stays.
pub no_read_fault : (before : ℕ) (answer : Status) → IsOfSite answer → IsCausedBySource before before answer
no_read_fault before answer of = by_source before before answer (λ e. absurd (of.1 e)) (λ other. refl)
