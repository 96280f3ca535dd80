-- Numbers, and the tests of two of them.
use Rattle.std.proofs.Common.{◌&&◌, ◌*◌, ◌+◌, ◌<◌, ◌==◌, ◌≡◌, ◌≢◌, ◌≤◌, ◌⊎◌, Bool, arith, false, inl, inr, nat_lt, refl, suc, true, zero, ℕ}
use Rattle.std.proofs.Math.Nat.{mul-le-mul_left}
use Rattle.std.proofs.lemmas.Bool.{cases_lt}
use Rattle.std.proofs.lemmas.Bool.Decides.{nat_tests}
use Rattle.std.specs.Prelude.{if◌then◌else◌, nat_le, neg_ℤ, pos, unsigned_abs}

-- the sign takes nothing from the magnitude
pub abs_signed : (b : Bool) (n : ℕ) → unsigned_abs (if b then neg_ℤ (pos n) else pos n) ≡ n
abs_signed true zero = refl
abs_signed true (suc n) = refl
abs_signed false n = refl

-- intervals lie one behind another
pub apart : (size a b : ℕ) → a < b → (a + 1) * size ≤ b * size
apart size a b lt = grind (arith, mul-le-mul_left)

-- two tests of equality
pub both_numbers : (s k set ci : ℕ) → (s == set && k == ci) ≡ true → (s ≡ set) × (k ≡ ci)
both_numbers s k set ci is = (grind (arith, nat_tests), grind (arith, nat_tests))

-- of two numbers with themselves
pub both_same : (a b : ℕ) → (a == a && b == b) ≡ true
both_same a b = grind (arith, nat_tests)

-- not above, as a test
pub is_le : (a b : ℕ) → a ≤ b → nat_le a b ≡ true
is_le a b e = grind arith

-- a number is equal to itself
pub is_number : (n : ℕ) → (n == n) ≡ true
is_number n = grind arith

-- what that test says
pub le_is : (a b : ℕ) → nat_le a b ≡ true → a ≤ b
le_is a b e = grind arith

-- not below, as a test
pub lt_false : (a b : ℕ) → b ≤ a → nat_lt a b ≡ false
lt_false a b h = grind arith

-- what a test of below says
pub lt_is : (a b : ℕ) → nat_lt a b ≡ true → a < b
lt_is a b e = grind arith

-- below, as a test
pub lt_true : (m n : ℕ) → m < n → nat_lt m n ≡ true
lt_true m n e = grind (arith, nat_tests)

-- unequal either way
pub not_flipped : (other region : ℕ) → (other == region) ≡ false → (region == other) ≡ false
not_flipped other region differs = grind (arith, nat_tests)

-- the test of equality looks at no order
pub number_flipped : (m n : ℕ) → (m == n) ≡ (n == m)
number_flipped m n = grind (arith, nat_tests)

-- what the test of equality says
pub number_is : (a b : ℕ) → (a == b) ≡ true → a ≡ b
number_is a b e = grind arith

-- unequal, as a test
pub other_number : (a b : ℕ) → (a ≡ b → ⊥) → (a == b) ≡ false
other_number a b h = grind arith

-- equal, as a test
pub same_number : (a b : ℕ) → a ≡ b → (a == b) ≡ true
same_number a b e = grind arith

-- two numbers are equal or not
pub same_or_other : (a b : ℕ) → (a ≡ b) ⊎ (a ≢ b)
same_or_other a b = elim (cases_lt a b) as (λ _. (a ≡ b) ⊎ (a ≢ b)) [
  | inl l ↦ inr (λ e. omega (arith, l, e))
  | inr l ↦ elim (cases_lt b a) as (λ _. (a ≡ b) ⊎ (a ≢ b))
      [ inl m ↦ inr (λ e. omega (arith, m, e)) | inr m ↦ inl (omega (arith, l, m)) ]
]
