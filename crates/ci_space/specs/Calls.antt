-- What the calls on the intervals of an area say.
use Rattle.std.specs.Prelude.{◌≡◌, ◌⊎◌, ℕ, ◌-◌, ◌<◌, ◌≤◌, ◌^◌, List, length, All}

-- what every call keeps: what is told stays told, an interval's size stays, the count of faults never
-- falls, and what was known since the first stays known
pub record GoesOn {I : Type 0} (told : I → Type 0) (size faults : I → ℕ) (keeps : I → I → Type 0) (old new : I) : Type 0
  where
    pub tells : told old → told new
    pub same_size : size new ≡ size old
    pub later : faults old ≤ faults new
    pub known : (first : I) → keeps first old → keeps first new

-- the intervals all have this size
abbrev pub HaveSize : ℕ → List (List ℕ) → Type 0
HaveSize size intervals = All (λ bytes. length bytes ≡ size) intervals

-- the intervals all have one size, which is some interval's
pub record HaveOneSize (intervals : List (List ℕ)) : Type 0 where
  pub size : ℕ
  pub some : 0 < length intervals
  pub each : HaveSize size intervals
