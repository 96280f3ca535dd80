-- No call of a device, one call of it, and one run of calls behind another.
use Rattle.std.proofs.Common.{◌≡◌, refl, ◌∙◌, arith, ℕ, Result}
use Rattle.fp_lists.specs.Continued.{IsContinued}
use Rattle.fp_lists.specs.Faults.{Counts}

-- before any call
pub continued_none : {X : Type 0} (told : X → Type 0) (faults : X → ℕ) (holds : X → ℕ) (keeps : X → X → Type 0) (a : X)
    → IsContinued told faults holds keeps a a
continued_none told faults holds keeps a =
    record { later = omega arith; still_told = λ t. t; reference = refl; kept = λ first k. k }

-- first these calls, then those
pub continued_both : {X : Type 0} (told : X → Type 0) (faults : X → ℕ) (holds : X → ℕ) (keeps : X → X
    → Type 0) (a b c : X)
    → IsContinued told faults holds keeps a b → IsContinued told faults holds keeps b c
    → IsContinued told faults holds keeps a c
continued_both told faults holds keeps a b c f s = record {
  later = omega (arith, f.later, s.later);
  still_told = λ t. s.still_told (f.still_told t);
  reference = s.reference ∙ f.reference;
  kept = λ first k. s.kept first (f.kept first k);
}

-- a call that says how it counts its fault, and what stays
pub continued_counts : {X T E : Type 0} (told : X → Type 0) (faults : X → ℕ) (holds : X → ℕ) (keeps : X → X
    → Type 0) (a b : X) (result : Result T E)
    → Counts (faults a) (faults b) result
    → (told a → told b) → holds b ≡ holds a → ((first : X) → keeps first a → keeps first b)
    → IsContinued told faults holds keeps a b
continued_counts told faults holds keeps a b result counts told_on same on =
    record { later = counts.later; still_told = told_on; reference = same; kept = on }
