-- What the calls on a source say of it.
use Rattle.std.specs.Prelude.{◌≡◌, ℕ, List}
use Rattle.fp_lists.specs.Continued.{IsContinued}
use Rattle.fp_source.specs.declared.part.Part.{Part}

-- By what is told, and by the numbers: some calls were made, which read of this part alone.
pub record ReadsOnly {S : Type 0} (told : S → Type 0) (left : S → Part → List ℕ) (faults : S → ℕ) (holds : S → ℕ)
    (keeps : S → S → Type 0) (part : Part) (old new : S) : Type 0 where
  pub continued : IsContinued told faults holds keeps old new
  pub others : told old → (p : Part) → (p ≡ part → ⊥) → left new p ≡ left old p
