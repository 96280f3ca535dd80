-- The count of faults over calls.
use Rattle.std.proofs.Common.{◌≡◌, inl, inr, ℕ, ◌≤◌, ◌∙◌, arith}
use Rattle.std.specs.Prelude.{Result, Ok, Err}
use Rattle.std.specs.Result.{IsErr}
use Rattle.fp_lists.specs.Faults.{Counts, Rose}

-- a count that rose later rose
pub rose_behind : (before now later : ℕ) → before ≤ now → Rose now later → Rose before later
rose_behind before now later le (inl more) = inl (omega (arith, le, more))
rose_behind before now later le (inr last) = inr last

-- an Err behind calls that went well
pub counts_err : {T E : Type 0} (r : Result T E) (before now later : ℕ) → IsErr r → before ≤ now → now ≤ later
    → Rose now later → Counts before later r
counts_err (Ok x) before now later is le more rose = absurd cc
counts_err (Err y) before now later is le more rose =
    record { later = omega (arith, le, more); rose = rose_behind before now later le rose; stayed = tt }

-- an answer behind a call that went well
pub counts_ok : {T E : Type 0} (x : T) (before now later : ℕ) → now ≡ before → later ≡ now
    → Counts {T = T} {E = E} before later (Ok x)
counts_ok x before now later same again =
    record { later = omega (arith, same, again); rose = tt; stayed = again ∙ same }
