-- Sets of regions, bit by bit.
use Rattle.std.proofs.Common.{refl, arith, ◌≡◌, ◌≢◌, ℕ, zero, suc, ◌+◌, ◌-◌, ◌*◌, ◌%◌, ◌^◌, ◌<◌, ◌≤◌, min, max, List, [], ◌∷◌, ◌++◌, filter, Bool, true, false, not, ◌&&◌, ◌||◌, ◌==◌, add-one, ⊎_elim, ap, sym, ◌∙◌}
use Rattle.std.specs.Prelude.{if◌then◌else◌, bit_and, bit_or}
use Rattle.std.specs.Int.{bit_at, w64}
use Rattle.std.proofs.lemmas.Bool.{cases_eq, cases_lt}
use Rattle.std.proofs.lemmas.Bool.Decides.{nat_tests}
use Rattle.std.proofs.lemmas.List.{append-nil}
use Rattle.std.proofs.lemmas.List.Elements.{filter-append}
use Rattle.std.proofs.lemmas.Nat.Bits.{bit_at-lt, bit_at_above, bit_at_and, bit_at_clear_other, bit_at_clear_same, bit_at_not, bit_at_or, bit_at_set_other, bit_at_set_same, bit_at-trailing_zeros}
use Rattle.fp_model.specs.State.{numbers_up}
use Rattle.ci_locks.specs.Sets.{has}
use lib.Count.{count_trailing_zeros}

-- ---- one bit

or_bits : (a b : ℕ) → a < 2 → b < 2 → (max a b == 1) ≡ ((a == 1) || (b == 1))
or_bits zero zero h k = refl
or_bits zero (suc zero) h k = refl
or_bits (suc zero) zero h k = refl
or_bits (suc zero) (suc zero) h k = refl
or_bits (suc (suc a)) b h k = absurd (omega (arith, h))
or_bits zero (suc (suc b)) h k = absurd (omega (arith, k))
or_bits (suc zero) (suc (suc b)) h k = absurd (omega (arith, k))

less_bits : (a b : ℕ) → a < 2 → b < 2 → (min a (1 - b) == 1) ≡ ((a == 1) && not (b == 1))
less_bits zero zero h k = refl
less_bits zero (suc zero) h k = refl
less_bits (suc zero) zero h k = refl
less_bits (suc zero) (suc zero) h k = refl
less_bits (suc (suc a)) b h k = absurd (omega (arith, h))
less_bits zero (suc (suc b)) h k = absurd (omega (arith, k))
less_bits (suc zero) (suc (suc b)) h k = absurd (omega (arith, k))

-- ---- two sets

pub or_is : (a b region : ℕ) → has (bit_or a b) region ≡ (has a region || has b region)
or_is a b zero = refl
or_is a b (suc place) = ap (λ bit. bit == 1) (bit_at_or a b place) ∙ or_bits (bit_at a place) (bit_at b place)
    (bit_at-lt a place) (bit_at-lt b place)

pub less_is : (a b : ℕ) → a < 18446744073709551616 → b < 18446744073709551616 → (region : ℕ)
    → has (bit_and a (18446744073709551615 - b)) region ≡ (has a region && not (has b region))
less_is a b small little zero = refl
less_is a b small little (suc place) =
    ⊎_elim
    (λ (low : place < 64).
    ap (λ bit. bit == 1) (bit_at_and a (18446744073709551615 - b) place)
    ∙ ap (λ bit. min (bit_at a place) bit == 1) (bit_at_not w64 b place little low)
    ∙ less_bits (bit_at a place) (bit_at b place) (bit_at-lt a place) (bit_at-lt b place))
    (λ (high : 64 ≤ place).
    let none : bit_at a place ≡ 0 = bit_at_above a 64 place small high in
    ap (λ bit. bit == 1) (bit_at_and a (18446744073709551615 - b) place)
    ∙ ap (λ bit. min bit (bit_at (18446744073709551615 - b) place) == 1) none
    ∙ none_less (bit_at (18446744073709551615 - b) place)
    ∙ sym (ap (λ bit. (bit == 1) && not (has b (suc place))) none))
    (cases_lt place 64)
  where
    none_less : (b : ℕ) → (min 0 b == 1) ≡ false
    none_less b = let e : min 0 b ≡ 0 = omega arith in ap (λ bit. bit == 1) e

-- ---- one region

module _ (n region : ℕ) (some : 1 ≤ region) (most : region ≤ 64) where
  abbrev bit : ℕ
  bit = 1 * 2 ^ (region - 1) % 18446744073709551616

  within : region - 1 < 64
  within = omega (arith, some, most)

  pub with_is : (other : ℕ) → has (bit_or n bit) other ≡ (other == region || has n other)
  with_is zero = let no : (0 == region) ≡ false = grind (arith, nat_tests, some) in ap (λ b. b || false) (sym no)
  with_is (suc place) =
      ⊎_elim
      (λ (here : place ≡ region - 1).
      let yes : (suc place == region) ≡ true = grind (arith, nat_tests, some, here) in
      ap (λ i. bit_at (bit_or n bit) i == 1) here ∙ ap (λ one. one == 1) (bit_at_set_same w64 n (region - 1) within) ∙
      ap (λ b. b || has n (suc place)) (sym yes))
      (λ (apart : place ≢ region - 1).
      let no : (suc place == region) ≡ false = grind (arith, nat_tests, some, apart) in
      ap (λ one. one == 1) (bit_at_set_other w64 n (region - 1) within place apart) ∙ ap (λ b. b || has n (suc place))
      (sym no))
      (cases_eq place (region - 1))

  pub without_is : n < 18446744073709551616 → (other : ℕ)
      → has (bit_and n (18446744073709551615 - bit)) other ≡ (not (other == region) && has n other)
  without_is small zero = let no : (0 == region) ≡ false = grind (arith, nat_tests, some) in
      ap (λ b. not b && false) (sym no)
  without_is small (suc place) =
      ⊎_elim
      (λ (here : place ≡ region - 1).
      let yes : (suc place == region) ≡ true = grind (arith, nat_tests, some, here) in
      ap (λ i. bit_at (bit_and n (18446744073709551615 - bit)) i == 1) here ∙ ap (λ one. one == 1)
      (bit_at_clear_same w64 n (region - 1) within) ∙ ap (λ b. not b && has n (suc place)) (sym yes))
      (λ (apart : place ≢ region - 1).
      let no : (suc place == region) ≡ false = grind (arith, nat_tests, some, apart) in
      ⊎_elim
      (λ (low : place < 64). ap (λ one. one == 1) (bit_at_clear_other w64 n (region - 1) within place low apart))
      (λ (high : 64 ≤ place).
      let none : bit_at n place ≡ 0 = bit_at_above n 64 place small high in
      let zero_one : min 0 (bit_at (18446744073709551615 - bit) place) ≡ 0 = omega arith in
      ap (λ one. one == 1) (bit_at_and n (18446744073709551615 - bit) place ∙ ap
      (λ b. min b (bit_at (18446744073709551615 - bit) place)) none ∙ zero_one ∙ sym none))
      (cases_lt place 64)
      ∙ ap (λ b. not b && has n (suc place)) (sym no))
      (cases_eq place (region - 1))

-- the least
pub first_is : (n : ℕ) → n ≢ 0 → n < 18446744073709551616 → has n (count_trailing_zeros 64 n + 1) ≡ true
first_is n some small =
    let it = bit_at-trailing_zeros w64 n (omega (arith, some)) small in
    ap (has n) (add-one (count_trailing_zeros 64 n)) ∙ ap (λ bit. bit == 1) it.1

pub first_least : (n : ℕ) → n ≢ 0 → n < 18446744073709551616 → (other : ℕ) → has n other ≡ true
    → count_trailing_zeros 64 n + 1 ≤ other
first_least n some small zero e = absurd (cc)
first_least n some small (suc place) e =
    ⊎_elim
    (λ (low : place < count_trailing_zeros 64 n).
    let none : bit_at n place ≡ 0 = (bit_at-trailing_zeros w64 n (omega (arith, some)) small).2 place low in
    absurd (let wrong : false ≡ true = sym (ap (λ bit. bit == 1) none) ∙ e in cc))
    (λ (high : count_trailing_zeros 64 n ≤ place). omega (arith, high))
    (cases_lt place (count_trailing_zeros 64 n))

-- ---- their numbers

pub numbers_last : (n from : ℕ) → numbers_up (suc n) from ≡ numbers_up n from ++ (from + n) ∷ []
numbers_last zero from = let e : from ≡ from + 0 = omega arith in ap (λ k. k ∷ []) e
numbers_last (suc n) from = let e : from + 1 + n ≡ from + suc n = omega arith in
    ap (λ ks. from ∷ ks) (numbers_last n (from + 1) ∙ ap (λ k. numbers_up n (from + 1) ++ k ∷ []) e)

pub filter_last : (p : ℕ → Bool) (n : ℕ) → filter p (numbers_up (n + 1) 1) ≡ filter p (numbers_up n 1) ++
    (if p (n + 1) then (n + 1) ∷ [] else [])
filter_last p n =
    let e : 1 + n ≡ n + 1 = omega arith in
    ap (λ k. filter p (numbers_up k 1)) (add-one n)
    ∙ ap (filter p) (numbers_last n 1)
    ∙ filter-append p (numbers_up n 1) ((1 + n) ∷ [])
    ∙ ap (λ k. filter p (numbers_up n 1) ++ filter p (k ∷ [])) e

pub yes_more : (xs : List ℕ) (n : ℕ) (b : Bool) → b ≡ true → xs ++ (if b then n ∷ [] else []) ≡ xs ++ n ∷ []
yes_more xs n b e = ap (λ q. xs ++ (if q then n ∷ [] else [])) e

pub no_more : (xs : List ℕ) (n : ℕ) (b : Bool) → b ≡ false → xs ++ (if b then n ∷ [] else []) ≡ xs
no_more xs n b e = ap (λ q. xs ++ (if q then n ∷ [] else [])) e ∙ append-nil xs
