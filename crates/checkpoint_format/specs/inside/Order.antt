-- Keys in ascending order, one by one.
use Rattle.std.specs.Prelude.{ℕ, List, [], ◌∷◌, Bool, true}
use Rattle.fp_model.specs.State.{is_below}

-- whether a key is below the first of others, where there is one
abbrev pub is_before : List ℕ → List (List ℕ) → Bool
is_before key [] = true
is_before key (next ∷ more) = is_below key next
