-- Fields that are written.
use Rattle.std.specs.Prelude.{◌≡◌, ℕ, List, Bool, true, false, Option, Some, None}

-- True where the number has a form, and then that form stands; else false, and the bytes are as they were.
abbrev pub Writes : Bool → List ℕ → List ℕ → Option (List ℕ) → Type 0
Writes true old new (Some form) = new ≡ form
Writes false old new None = new ≡ old
Writes true old new None = ⊥
Writes false old new (Some form) = ⊥
