-- Walks along those that regions wait for.
use Rattle.std.specs.Prelude.{ℕ, List, Bool, ◌==◌}
use Rattle.std.specs.List.{list_any}

-- whether a number is in a list
abbrev pub is_in : List ℕ → ℕ → Bool
is_in numbers n = list_any (λ m. n == m) numbers
