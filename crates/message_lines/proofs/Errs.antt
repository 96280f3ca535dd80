-- Results that are an Err of one kind, and so of no other.
use Rattle.std.proofs.Common.{◌≡◌, ℕ, refl}
use Rattle.std.specs.Prelude.{Result, Ok, Err, IfErr, IsErrOf}
use Rattle.std.specs.Result.{IsErrAnd}
use Rattle.fp_lists.specs.Faults.{Rose}
use Rattle.message_lines.specs.declared.lines.LineFault.{LineFault}
use Rattle.message_lines.specs.declared.lines.LineFault.TheVariants as line
use Rattle.message_lines.specs.Lines.{IsCausedBy}

-- a read for a line that failed
pub no_long_line : {T : Type 0} (r : Result T LineFault) (n : ℕ) → IsErrAnd r (λ e. e ≡ line.Failed)
    → IsErrOf r (line.TooLong n) → ⊥
no_long_line (Ok x) n is e = is
no_long_line (Err y) n is e = absurd cc

pub no_line_too_many : {T : Type 0} (r : Result T LineFault) (n : ℕ) → IsErrAnd r (λ e. e ≡ line.Failed)
    → IsErrOf r (line.TooMany n) → ⊥
no_line_too_many (Ok x) n is e = is
no_line_too_many (Err y) n is e = absurd cc

-- want of memory for a line
pub memory_no_long_line : {T : Type 0} (r : Result T LineFault) (n : ℕ) → IsErrAnd r (λ e. e ≡ line.Memory)
    → IsErrOf r (line.TooLong n) → ⊥
memory_no_long_line (Ok x) n is e = is
memory_no_long_line (Err y) n is e = absurd cc

pub memory_no_line_too_many : {T : Type 0} (r : Result T LineFault) (n : ℕ) → IsErrAnd r (λ e. e ≡ line.Memory)
    → IsErrOf r (line.TooMany n) → ⊥
memory_no_line_too_many (Ok x) n is e = is
memory_no_line_too_many (Err y) n is e = absurd cc

pub memory_no_failed_read : {T : Type 0} (r : Result T LineFault) → IsErrAnd r (λ e. e ≡ line.Memory)
    → IsErrOf r line.Failed → ⊥
memory_no_failed_read (Ok x) is e = is
memory_no_failed_read (Err y) is e = absurd cc

-- ---- what a fault of a line is caused by

pub caused : {T : Type 0} (r : Result T LineFault) (before now : ℕ) → IsErrAnd r (λ e. e ≡ line.Failed)
    → Rose before now → IfErr r (IsCausedBy before now)
caused (Ok x) before now is rose = tt
caused (Err y) before now is rose = rw is rose

pub not_by_read : {T : Type 0} (r : Result T LineFault) (e : LineFault) (before now : ℕ) → r ≡ Err e
    → (e ≡ line.Failed → ⊥) → now ≡ before → IfErr r (IsCausedBy before now)
not_by_read r (line.TooLong n) before now is other same = rw is same
not_by_read r line.Failed before now is other same = absurd (other refl)
not_by_read r (line.TooMany n) before now is other same = rw is same
not_by_read r line.Memory before now is other same = rw is same

pub caused_later : {T : Type 0} (r : Result T LineFault) (e : LineFault) (before middle now : ℕ) → r ≡ Err e
    → middle ≡ before → IsCausedBy middle now e → IfErr r (IsCausedBy before now)
caused_later r e before middle now is same cause = rw (is, ← same) cause
