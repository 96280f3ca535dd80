-- What every call of a site says of its count of faults, and of the bytes read.
use Rattle.std.specs.Prelude.{◌≡◌, ◌⊎◌, ℕ, ◌-◌, ◌<◌, ◌≤◌, ◌^◌, Result, OnErr, OnOk}

-- By what is told, and by the numbers: nothing was read.
abbrev pub ReadsNothing : (ℕ → Type 0) → (ℕ → Type 0) → (ℕ → ℕ) → (ℕ → ℕ) → Type 0
ReadsNothing told_before told_now before now = (set : ℕ) → told_now set → told_before set × (now set ≡ before set)
