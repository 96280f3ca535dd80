-- A spelling and a reader that undo each other.
use Rattle.std.specs.Prelude.{◌≡◌, ℕ, ◌<◌, List, ◌++◌, length, Option, Some}
use Rattle.std.specs.List.{flat_map}
use Rattle.fp_model.specs.Spellings.{be32}
use Rattle.fp_model.specs.LogText.{IsBytes}

-- these bytes are a text and a rest, which is bytes too
pub record Takes (bytes text rest : List ℕ) : Type 0 where
  pub parts : bytes ≡ text ++ rest
  pub rest_fits : IsBytes rest

-- What a reader takes off the front of bytes is the spelling of a value that fits; and whatever follows the
-- spelling of such a value, the reader gives the value and leaves what follows.
pub record Lawful (X : Type 0) (text : X → List ℕ) (at : List ℕ → Option (X × List ℕ)) (Fits : X → Type 0) : Type 0
  where
    pub takes : (bytes : List ℕ) (x : X × List ℕ) → IsBytes bytes → at bytes ≡ Some x → Takes bytes (text x.0) x.1
        × Fits x.0
    pub again : (x : X) (rest : List ℕ) → Fits x → at (text x ++ rest) ≡ Some (x, rest)

-- a list of bytes that is shorter than a limit
abbrev pub IsShorter : ℕ → List ℕ → Type 0
IsShorter limit bytes = (length bytes < limit) × IsBytes bytes

-- elements behind their count in four bytes
abbrev pub counted_text : {X : Type 0} → (X → List ℕ) → List X → List ℕ
counted_text text xs = be32 (length xs) ++ flat_map text xs
