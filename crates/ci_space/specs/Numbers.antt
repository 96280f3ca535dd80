-- A number put into bytes.
use Rattle.std.specs.Prelude.{◌≡◌, ℕ, ◌+◌, List, length}
use Rattle.byteorder.specs.Endian.{big_from}
use Rattle.ci_space.specs.Interval.{Keeps}

-- the number `x` is put into the `n` bytes from `at` on
pub record PutsNumber (old new : List ℕ) (at n x : ℕ) : Type 0 where
  pub is_number : big_from at n new ≡ x
  pub below : Keeps old new 0 at
  pub above : Keeps old new (at + n) (length old)
