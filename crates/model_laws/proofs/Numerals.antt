-- How many bytes a number takes.
use Rattle.std.proofs.Common.{◌%◌, ◌*◌, ◌+◌, ◌-◌, ◌/◌, ◌≡◌, ◌≤◌, arith, length, refl, suc, zero, ℕ}
use Rattle.fp_model.specs.Numbers.{big_endian, packed_form, pairs}
use Rattle.plain_laws.proofs.Lists.{length_snoc}

-- so many bytes
pub length-big_endian : (k n : ℕ) → length (big_endian k n) ≡ k
length-big_endian zero n = refl
length-big_endian (suc k) n = omega (
  arith,
  length_snoc (big_endian k (n / 256)) (n % 256),
  length-big_endian k (n / 256),
)

-- so many bytes
pub length-pairs : (k n : ℕ) → length (pairs k n) ≡ k
length-pairs zero n = refl
length-pairs (suc k) n = omega (
  arith,
  length_snoc (pairs k (n / 100)) (n / 10 % 10 * 16 + n % 10),
  length-pairs k (n / 100),
)

-- a form fills its field
pub length-form : (size n sign : ℕ) → 1 ≤ size → length (packed_form size n sign) ≡ size
length-form size n sign some =
    omega (arith, some, length_snoc (pairs (size - 1) (n / 10)) (n % 10 * 16 + sign), length-pairs (size - 1) (n / 10))
