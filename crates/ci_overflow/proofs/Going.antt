-- Two calls on an area's intervals, one after the other.
use Rattle.std.proofs.Common.{◌≡◌, ◌≤◌, ℕ, Result, Ok, Err, ap, subst}
use Rattle.std.specs.Result.{IsErrAnd}
use Rattle.fp_lists.specs.Faults.{Rose}
use Rattle.fp_lists.proofs.FaultLemmas.{rose_behind}
use Rattle.ci_overflow.specs.declared.SpaceFault.{SpaceFault}
use Rattle.ci_overflow.specs.declared.SpaceFault.TheVariants.{Damaged, Failed}

-- the interval that a fault names
pub named_fault : {A : Type 0} (P : ℕ → Type 0) (ci n : ℕ)
    → (let s : Result A SpaceFault = Err (Damaged ci) in s) ≡ Err (Damaged n) → P ci → P n
named_fault {A} P ci n e p =
    let k : ci ≡ n = cc in
    subst P k p

-- the count of faults rose where a later call failed, whose fault is passed on
pub rose_then : {A B : Type 0} (r : Result A SpaceFault) (fault : SpaceFault) (before now later : ℕ)
    → IsErrAnd r (λ y. y ≡ fault) → before ≤ now
    → ((let s : Result B SpaceFault = Err fault in s) ≡ Err Failed → Rose now later) → r ≡ Err Failed
    → Rose before later
rose_then (Ok x) fault before now later is le rose e = absurd is
rose_then {A} {B} (Err y) fault before now later is le rose e =
    let k : fault ≡ Failed = cc in
    rose_behind before now later le (rose (ap (λ f. (let s : Result B SpaceFault = Err f in s)) k))

-- nor did it where that call never fails
pub failed_then : {A B C : Type 0} (r : Result A SpaceFault) (fault : SpaceFault) → IsErrAnd r (λ y. y ≡ fault)
    → ((let s : Result B SpaceFault = Err fault in s) ≡ Err Failed → ⊥) → r ≡ Err Failed → C
failed_then (Ok x) fault is never e = absurd is
failed_then {A} {B} (Err y) fault is never e =
    let k : fault ≡ Failed = cc in
    absurd (never (ap (λ f. (let s : Result B SpaceFault = Err f in s)) k))

-- the same of what it names
pub damaged_then : {A B C : Type 0} (r : Result A SpaceFault) (fault : SpaceFault) (n : ℕ)
    → IsErrAnd r (λ y. y ≡ fault)
    → ((let s : Result B SpaceFault = Err fault in s) ≡ Err (Damaged n) → C) → r ≡ Err (Damaged n) → C
damaged_then (Ok x) fault n is named e = absurd is
damaged_then {A} {B} (Err y) fault n is named e =
    let k : fault ≡ Damaged n = cc in
    named (ap (λ f. (let s : Result B SpaceFault = Err f in s)) k)
