-- How often a number stands in a list: numbers are distinct where none stands twice.
use Rattle.std.proofs.Common.{◌≡◌, ℕ, zero, suc, ◌+◌, ◌≤◌, List, [], ◌∷◌, ◌++◌, take, drop, Some, refl, sym, ◌∙◌, ap, subst, Bool, true, false, ◌==◌, slice_get, arith}
use Rattle.std.specs.Prelude.{flat_map, if◌then◌else◌}
use Rattle.std.specs.List.{AllByRecursion, IsDistinct}
use Rattle.state_laws.proofs.Lists.{true_is_not_false}
use Rattle.plain_laws.proofs.Numbers.{is_number, number_is}

-- how often a number stands there
abbrev pub times : ℕ → List ℕ → ℕ
times n [] = 0
times n (m ∷ ms) = (if m == n then 1 else 0) + times n ms

pub times_append : (n : ℕ) (ms ks : List ℕ) → times n (ms ++ ks) ≡ times n ms + times n ks
times_append n [] ks = sym (omega arith)
times_append n (m ∷ ms) ks = omega (arith, times_append n ms ks)

-- a number that doesn't stand there
none_times : (m : ℕ) (ms : List ℕ) → AllByRecursion (λ k. (m == k) ≡ false) ms → times m ms ≡ 0
none_times m [] all = refl
none_times m (k ∷ ks) all = by (k == m) refl (none_times m ks all.1)
  where
    by : (b : Bool) → (k == m) ≡ b → times m ks ≡ 0 → (if b then 1 else 0) + times m ks ≡ 0
    by true is rest = absurd (true_is_not_false (sym (ap (λ (z : ℕ). m == z) (number_is k m is) ∙ is_number m) ∙ all.0))
    by false is rest = omega (arith, rest)

pub few_times : (ms : List ℕ) → IsDistinct ◌==◌ ms → (n : ℕ) → times n ms ≤ 1
unfolding IsDistinct
few_times [] d n = omega arith
few_times (m ∷ ms) d n = by (m == n) refl (few_times ms d.1 n)
  where
    by : (b : Bool) → (m == n) ≡ b → times n ms ≤ 1 → (if b then 1 else 0) + times n ms ≤ 1
    by true is rest = let none = none_times m ms d.0 in
        let same : times n ms ≡ 0 = subst (λ (k : ℕ). times k ms ≡ 0) (number_is m n is) none in omega (arith, same)
    by false is rest = omega (arith, rest)

no_more : (m : ℕ) (ks : List ℕ) → times m ks ≤ 0 → AllByRecursion (λ k. (m == k) ≡ false) ks
no_more m [] h = tt
no_more m (k ∷ ks) h = by (k == m) refl h (no_more m ks)
  where
    by : (b : Bool) → (k == m) ≡ b → (if b then 1 else 0) + times m ks ≤ 0
        → (times m ks ≤ 0 → AllByRecursion (λ j. (m == j) ≡ false) ks) → ((m == k) ≡ false)
        × AllByRecursion (λ j. (m == j) ≡ false) ks
    by true is h later = absurd (omega (arith, h))
    by false is h later = (turned (m == k) refl, later (omega (arith, h)))
      where
        turned : (c : Bool) → (m == k) ≡ c → c ≡ false
        turned true e = absurd (true_is_not_false (sym (ap (λ (z : ℕ). z == m) (sym (number_is m k e)) ∙ is_number m) ∙
            is))
        turned false e = refl

pub distinct_few : (ms : List ℕ) → ((n : ℕ) → times n ms ≤ 1) → IsDistinct ◌==◌ ms
unfolding IsDistinct
distinct_few [] h = tt
distinct_few (m ∷ ms) h =
    (no_more m ms (first (m == m) (is_number m) (h m)), distinct_few ms (λ n. rest n (m == n) (h n)))
  where
    first : (b : Bool) → b ≡ true → (if b then 1 else 0) + times m ms ≤ 1 → times m ms ≤ 0
    first true e h = omega (arith, h)
    first false e h = absurd (true_is_not_false (sym e))

    rest : (n : ℕ) (b : Bool) → (if b then 1 else 0) + times n ms ≤ 1 → times n ms ≤ 1
    rest n true h = omega (arith, h)
    rest n false h = omega (arith, h)

-- a part of a list of lists, element by element with no more of a number, and one more where one element is
module _ {X : Type 0} (f : X → List ℕ) (n : ℕ) where
  front_fewer : (count : ℕ) (xs ys : List X) → ((k : ℕ) (y : X) → slice_get ys k ≡ Some y → (x : X)
      × (slice_get xs k ≡ Some x) × (times n (f y) ≤ times n (f x)))
      → times n (flat_map f (take count ys)) ≤ times n (flat_map f (take count xs))
  front_fewer zero xs ys h = omega arith
  front_fewer (suc count) xs [] h = omega arith
  front_fewer (suc count) [] (y ∷ ys) h = let one = h 0 y refl in absurd (none one.0 one.1)
    where
      none : (x : X) → slice_get [] 0 ≡ Some x → ⊥
      none x e = cc
  front_fewer (suc count) (x ∷ xs) (y ∷ ys) h =
      let one = h 0 y refl in
      let same : one.0 ≡ x = some one.0 one.1 in
      let first : times n (f y) ≤ times n (f x) = subst (λ (z : X). times n (f y) ≤ times n (f z)) same one.2 in
      let rest = front_fewer count xs ys (λ k z. h (suc k) z) in
      let a = times_append n (f y) (flat_map f (take count ys)) in
      let b = times_append n (f x) (flat_map f (take count xs)) in
      omega (arith, first, rest, a, b)
    where
      some : (z : X) → slice_get (x ∷ xs) 0 ≡ Some z → z ≡ x
      some z e = cc

  drop_nothing : (k : ℕ) → drop {A = X} k [] ≡ []
  drop_nothing zero = refl
  drop_nothing (suc k) = refl

  -- a part with no more of a number in each element has no more of it
  pub part_fewer : (count first : ℕ) (xs ys : List X)
      → ((k : ℕ) (y : X) → slice_get ys k ≡ Some y → (x : X) × (slice_get xs k ≡ Some x)
      × (times n (f y) ≤ times n (f x))) → times n (flat_map f (take count (drop first ys))) ≤ times n
      (flat_map f (take count (drop first xs)))
  part_fewer count zero xs ys h = front_fewer count xs ys h
  part_fewer zero (suc first) xs ys h = omega arith
  part_fewer (suc count) (suc first) xs [] h = omega arith
  part_fewer (suc count) (suc first) [] (y ∷ ys) h = let one = h 0 y refl in absurd (none one.0 one.1)
    where
      none : (x : X) → slice_get [] 0 ≡ Some x → ⊥
      none x e = cc
  part_fewer (suc count) (suc first) (x ∷ xs) (y ∷ ys) h = part_fewer (suc count) first xs ys (λ k z. h (suc k) z)
