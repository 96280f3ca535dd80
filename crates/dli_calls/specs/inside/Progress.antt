-- What bodies and proofs need of Progress, beside what contracts say.
use Rattle.std.specs.Prelude.{ℕ, List, [], ◌∷◌, ◌++◌, Option, Some, None}

-- with one more note, if there is one
abbrev pub noted : Option ℕ → List ℕ → List ℕ
noted None notes = notes
noted (Some count) notes = notes ++ count ∷ []
