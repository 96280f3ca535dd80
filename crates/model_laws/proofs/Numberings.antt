-- Numbers counted up from one of them.
use Rattle.std.proofs.Common.{◌+◌, ◌≡◌, ap, length, refl, suc, zero, ℕ}
use Rattle.fp_model.specs.State.{numbers_up}

-- so many numbers
pub numbers_length : (n from : ℕ) → length (numbers_up n from) ≡ n
numbers_length zero from = refl
numbers_length (suc n) from = ap suc (numbers_length n (from + 1))
