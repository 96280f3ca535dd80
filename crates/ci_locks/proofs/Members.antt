-- The regions of a set as a list, and those that a region leads to.
use Rattle.std.proofs.Common.{refl, arith, ◌≡◌, ℕ, zero, suc, ◌+◌, ◌<◌, ◌≤◌, List, [], ◌∷◌, ◌++◌, length, take, filter, Bool, true, false, cond, ◌||◌, ◌==◌, ap, sym, ◌∙◌}
use Rattle.std.specs.Prelude.{slice_set}
use Rattle.fp_model.specs.State.{numbers_up}
use Rattle.ci_locks.specs.Graph.{is_in}
use Rattle.ci_locks.specs.Sets.{has}
use Rattle.ci_locks.specs.inside.Sets.{members}
use Rattle.plain_laws.proofs.Numbers.{is_number, number_is}
use Rattle.std.proofs.lemmas.Bool.{or_right}

-- ---- numbers that pass a test

pub kept_passes : (p : ℕ → Bool) (xs : List ℕ) (b : ℕ) → is_in (filter p xs) b ≡ true → p b ≡ true
kept_passes p [] b e = absurd (cc)
kept_passes p (x ∷ xs) b e = by (p x) refl (kept_passes p xs b) e
  where
    here : (t : Bool) → (b == x) ≡ t → p x ≡ true → (is_in (filter p xs) b ≡ true → p b ≡ true)
        → (t || is_in (filter p xs) b) ≡ true → p b ≡ true
    here true same is rest e2 = ap p (number_is b x same) ∙ is
    here false same is rest e2 = rest e2

    by : (t : Bool) → p x ≡ t → (is_in (filter p xs) b ≡ true → p b ≡ true)
        → is_in (cond t (x ∷ filter p xs) (filter p xs)) b ≡ true → p b ≡ true
    by true is rest e2 = here (b == x) refl is rest e2
    by false is rest e2 = rest e2

kept : (p : ℕ → Bool) (xs : List ℕ) (b : ℕ) → is_in xs b ≡ true → p b ≡ true → is_in (filter p xs) b ≡ true
kept p [] b e is = absurd (cc)
kept p (x ∷ xs) b e is = by (p x) (b == x) refl refl (λ h. kept p xs b h is) e
  where
    by : (t u : Bool) → p x ≡ t → (b == x) ≡ u → (is_in xs b ≡ true → is_in (filter p xs) b ≡ true)
        → (u || is_in xs b) ≡ true → is_in (cond t (x ∷ filter p xs) (filter p xs)) b ≡ true
    by true true passes same rest e2 = ap (λ t. t || is_in (filter p xs) b) same
    by true false passes same rest e2 = or_right (b == x) (is_in (filter p xs) b) (rest e2)
    by false true passes same rest e2 =
        absurd (let wrong : false ≡ true = sym passes ∙ ap p (sym (number_is b x same)) ∙ is in cc)
    by false false passes same rest e2 = rest e2

numbers_have : (n from b : ℕ) → from ≤ b → b < from + n → is_in (numbers_up n from) b ≡ true
numbers_have zero from b le lt = absurd (omega (arith, le, lt))
numbers_have (suc n) from b le lt = by (b == from) refl
    (λ apart. numbers_have n (from + 1) b (omega (arith, le, apart)) (omega (arith, lt)))
  where
    by : (t : Bool) → (b == from) ≡ t → ((b ≡ from → ⊥) → is_in (numbers_up n (from + 1)) b ≡ true)
        → (t || is_in (numbers_up n (from + 1)) b) ≡ true
    by true same rest = refl
    by false other rest =
        rest (λ same. let wrong : true ≡ false = sym (is_number from) ∙ ap (λ x. x == from) (sym same) ∙ other in cc)

-- a number of so many that passes is among those that do
pub is_kept : (p : ℕ → Bool) (n b : ℕ) → 1 ≤ b → b ≤ n → p b ≡ true → is_in (filter p (numbers_up n 1)) b ≡ true
is_kept p n b some most is = kept p (numbers_up n 1) b (numbers_have n 1 b some (omega (arith, most))) is

-- ---- sets

pub member_is : (word b : ℕ) → is_in (members word) b ≡ true → has word b ≡ true
member_is word b e = kept_passes (has word) (numbers_up 64 1) b e

pub is_member : (word b : ℕ) → 1 ≤ b → b ≤ 64 → has word b ≡ true → is_in (members word) b ≡ true
is_member word b some most is = kept (has word) (numbers_up 64 1) b (numbers_have 64 1 b some (omega (arith, most))) is

-- ---- the way in its array

pub take_put : (xs : List ℕ) (k x : ℕ) → k < length xs → take (k + 1) (slice_set xs k x) ≡ take k xs ++ x ∷ []
take_put xs k x h = let e : k + 1 ≡ suc k = omega arith in ap (λ i. take i (slice_set xs k x)) e ∙ by xs k h
  where
    by : (xs : List ℕ) (k : ℕ) → k < length xs → take (suc k) (slice_set xs k x) ≡ take k xs ++ x ∷ []
    by [] k h = absurd (omega (arith, h))
    by (y ∷ xs) zero h = refl
    by (y ∷ xs) (suc k) h = ap (λ l. y ∷ l) (by xs k (omega (arith, h)))
