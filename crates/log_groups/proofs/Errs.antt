-- What a call on the log says at an Err that a call of its own gave it; and what two calls read.
use Rattle.std.proofs.Common.{◌≡◌, ℕ, ◌≤◌, ◌∙◌, ap}
use Rattle.std.specs.Prelude.{Result, Ok, Err, IsErrOf}
use Rattle.std.specs.Result.{IsErrAnd}
use Rattle.fp_lists.specs.Faults.{Rose}
use Rattle.fp_lists.proofs.FaultLemmas.{rose_behind}
use Rattle.log_groups.specs.Reads.{ReadsOnlyLog}
use Rattle.log_groups.specs.declared.fault.LogFault.{LogFault}
use Rattle.log_groups.specs.declared.fault.LogFault.TheVariants as faults

-- ---- the site failed

pub failed_is : {T : Type 0} (r : Result T LogFault) → IsErrAnd r (λ e. e ≡ faults.Failed) → IsErrOf r faults.Failed
failed_is (Ok x) is = absurd is
failed_is (Err y) is = cc

pub failed_not_damaged : {T : Type 0} (r : Result T LogFault) (place : ℕ) → IsErrAnd r (λ e. e ≡ faults.Failed)
    → IsErrOf r (faults.Damaged place) → ⊥
failed_not_damaged (Ok x) place is e = is
failed_not_damaged (Err y) place is e = absurd cc

pub failed_not_foreign : {T : Type 0} (r : Result T LogFault) → IsErrAnd r (λ e. e ≡ faults.Failed)
    → IsErrOf r faults.Foreign → ⊥
failed_not_foreign (Ok x) is e = is
failed_not_foreign (Err y) is e = absurd cc

pub failed_not_memory : {T : Type 0} (r : Result T LogFault) → IsErrAnd r (λ e. e ≡ faults.Failed)
    → IsErrOf r faults.Memory → ⊥
failed_not_memory (Ok x) is e = is
failed_not_memory (Err y) is e = absurd cc

-- ---- want of memory

pub memory_not_failed : {T : Type 0} (r : Result T LogFault) → IsErrAnd r (λ e. e ≡ faults.Memory)
    → IsErrOf r faults.Failed → ⊥
memory_not_failed (Ok x) is e = is
memory_not_failed (Err y) is e = absurd cc

pub memory_not_damaged : {T : Type 0} (r : Result T LogFault) (place : ℕ) → IsErrAnd r (λ e. e ≡ faults.Memory)
    → IsErrOf r (faults.Damaged place) → ⊥
memory_not_damaged (Ok x) place is e = is
memory_not_damaged (Err y) place is e = absurd cc

pub memory_not_foreign : {T : Type 0} (r : Result T LogFault) → IsErrAnd r (λ e. e ≡ faults.Memory)
    → IsErrOf r faults.Foreign → ⊥
memory_not_foreign (Ok x) is e = is
memory_not_foreign (Err y) is e = absurd cc

-- ---- an earlier call failed with this fault

module _ {T U : Type 0} (r : Result T LogFault) (e : LogFault) (is : r ≡ Err e) where
  same_fault : (fault : LogFault) → IsErrOf r fault → IsErrOf {T = U} (Err e) fault
  same_fault fault given = let same : e ≡ fault = cc (is, given) in ap (λ x. Err x) same

  pub is_never : (fault : LogFault) → (IsErrOf {T = U} (Err e) fault → ⊥) → IsErrOf r fault → ⊥
  is_never fault never given = never (same_fault fault given)

  pub rose_then : (before now later : ℕ) → before ≤ now
      → (IsErrOf {T = U} (Err e) faults.Failed → Rose now later) → IsErrOf r faults.Failed → Rose before later
  rose_then before now later le rose given = rose_behind before now later le (rose (same_fault faults.Failed given))

  pub stayed_then : (before now later : ℕ) → now ≡ before
      → ((IsErrOf {T = U} (Err e) faults.Failed → ⊥) → later ≡ now) → (IsErrOf r faults.Failed → ⊥) → later ≡ before
  stayed_then before now later same stayed other =
      stayed (λ given. other (let failed : e ≡ faults.Failed = cc given in is ∙ ap (λ x. Err x) failed)) ∙ same

-- ---- what is read, by what is told and by the numbers

pub log_reads_both : (told told1 told2 : ℕ → Type 0) (read read1 read2 : ℕ → ℕ) → ReadsOnlyLog told told1 read read1
    → ReadsOnlyLog told1 told2 read1 read2 → ReadsOnlyLog told told2 read read2
log_reads_both told told1 told2 read read1 read2 first second k t =
    let after = second k t in
    let before = first k after.0 in
    (before.0, λ other. after.1 other ∙ before.1 other)
