-- Bytes before newlines.
use Rattle.std.specs.Prelude.{◌≡◌, ℕ, ◌+◌, ◌<◌, Bool, true, false, ◌==◌, List, [], ◌∷◌, ◌++◌, length, drop, if◌then◌else◌}
use Rattle.std.specs.List.{All}

abbrev pub HasNoNewline : List ℕ → Type 0
HasNoNewline bytes = All (λ b. (b == 10) ≡ false) bytes

-- the bytes are this part, which has no newline, then a newline if there is one, and then the rest, which else is empty
pub record IsFirstPart (part : List ℕ) (by_newline : Bool) (whole rest : List ℕ) : Type 0 where
  pub plain : HasNoNewline part
  pub up_to : by_newline ≡ true → whole ≡ part ++ 10 ∷ rest
  pub all : by_newline ≡ false → whole ≡ part
  pub nothing : by_newline ≡ false → rest ≡ []

-- what stands behind such a part
abbrev pub after_part : List ℕ → Bool → List ℕ → List ℕ
after_part part by_newline whole = drop (length part + (if by_newline then 1 else 0)) whole

-- more than 2,100 bytes stand before the first newline
pub record HasLongLine (bytes : List ℕ) : Type 0 where
  pub front : List ℕ
  pub rest : List ℕ
  pub splits : bytes ≡ front ++ rest
  pub plain : HasNoNewline front
  pub long : 2100 < length front
