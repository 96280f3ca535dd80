-- Intervals at fault, as the calls see them.
use Rattle.std.proofs.Common.{◌≡◌, ℕ, ◌<◌, ◌≤◌, List, Result, Err, ◌∙◌, sym}
use Rattle.ci_overflow.specs.Lists.{bytes_at}
use Rattle.ci_overflow.specs.Places.{first_sequential, first_independent}
use Rattle.seq_dependents.specs.declared.part.Part.{Part}
use Rattle.seq_dependents.specs.declared.fault.SeqFault.{SeqFault}
use Rattle.seq_dependents.specs.declared.fault.SeqFault.TheVariants.{Damaged}
use Rattle.seq_dependents.specs.Control.{IsKept, begin_of, end_of}
use Rattle.seq_dependents.specs.Faults.{IsMisplaced, IsAtFault, misplaced, other_serial}
use Rattle.seq_dependents.specs.Slots.{IsSequential, HasSerial, interval_of, slot_in, slot_of}

pub misplaced_here : (part : Part) (area : List (List ℕ)) (ci n : ℕ) → n ≡ ci → first_sequential part.shape ≤ ci
    → ci < first_independent part.shape → ¬ IsSequential part area ci → IsMisplaced part area n
misplaced_here part area ci n e a b f = rw e (record { behind = a; before = b; missing = f })

pub misplaced_fault : (part : Part) (area : List (List ℕ)) (ci n : ℕ) → n ≡ ci → first_sequential part.shape ≤ ci
    → ci < first_independent part.shape → ¬ IsSequential part area ci → IsAtFault part area n
misplaced_fault part area ci n e a b f = misplaced (misplaced_here part area ci n e a b f)

pub serial_fault : (part : Part) (area : List (List ℕ)) (serial ci n : ℕ) → n ≡ ci → ci ≡ interval_of part serial
    → IsKept area serial → ¬ HasSerial (slot_of part area serial) serial → IsAtFault part area n
serial_fault part area serial ci n e g k f = other_serial serial k (e ∙ g) f

-- the slot doesn't hold its serial
pub serial_missing : {A : Type 0} (part : Part) (area : List (List ℕ)) (serial ci n : ℕ) (bytes : List ℕ)
    → ci ≡ interval_of part serial → bytes ≡ bytes_at area ci → IsKept area serial
    → ¬ HasSerial (slot_in part bytes serial) serial
    → (let s : Result A SeqFault = Err (Damaged ci) in s) ≡ Err (Damaged n) → IsAtFault part area n
serial_missing {A} part area serial ci n bytes e b k f h =
    let m : ci ≡ n = cc in
    let g : ¬ HasSerial (slot_of part area serial) serial = rw (← e, ← b) f in
    other_serial serial k (sym m ∙ e) g

-- a serial between the ends is kept
pub between : (area : List (List ℕ)) (begin end serial : ℕ) → begin ≡ begin_of area → end ≡ end_of area
    → begin ≤ serial → serial < end → IsKept area serial
between area begin end serial b e l m = record { from_begin = rw (← b) l; before_end = rw (← e) m }
