-- What a call that may fail says of its device's count of faults.
use Rattle.std.specs.Prelude.{◌≡◌, ◌⊎◌, ℕ, ◌-◌, ◌<◌, ◌≤◌, ◌^◌, Result, OnErr, OnOk}

-- The count of faults rose. At its last value it can't rise.
abbrev pub Rose : ℕ → ℕ → Type 0
Rose before now = (before < now) ⊎ (now ≡ 2 ^ 64 - 1)

-- The count of faults never falls, an Err comes only where it rose, and an Ok only where it stayed.
pub record Counts {T E : Type 0} (before now : ℕ) (result : Result T E) : Type 0 where
  pub later : before ≤ now
  pub rose : OnErr result (Rose before now)
  pub stayed : OnOk result (now ≡ before)
