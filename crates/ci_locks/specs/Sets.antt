-- Sets of regions as words: the bit of value 2 ^ (r - 1) stands for region r.
use Rattle.std.specs.Prelude.{ℕ, zero, suc, Bool, false, ◌==◌}
use Rattle.std.specs.Int.{bit_at}

-- whether a region is in the set
abbrev pub has : ℕ → ℕ → Bool
has word zero = false
has word (suc place) = bit_at word place == 1
