-- What bodies and proofs need of Values, beside what contracts say.
use Rattle.std.specs.Prelude.{◌≡◌, ℕ, List, ◌++◌, Bool, true, false, Option, Some, None}

-- ---- no part of what a text means: what functions that put bytes at the end promise

-- Bytes that are put at the end: those of a value, where there are some, and then the answer is true.
abbrev pub Appends : Bool → List ℕ → List ℕ → Option (List ℕ) → Type 0
Appends true old new (Some bytes) = new ≡ old ++ bytes
Appends false old new None = Unit {0}
Appends true old new None = ⊥
Appends false old new (Some bytes) = ⊥
