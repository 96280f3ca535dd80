-- Lists of pointers: what they hold, and that they hold it once.
use Rattle.std.proofs.Common.{◌≡◌, ◌≢◌, suc, ◌⊎◌, inl, inr, List, [], ◌∷◌, ◌++◌, Contains, AllPairs, refl, sym, subst, arith}
use Rattle.std.proofs.lemmas.List.Elements.{Contains-append_left, Contains-append_right, Contains-append_cases}
use Rattle.anchor_elements.proofs.Pointers.{pointer_or}
use Rattle.anchor_elements.specs.Elements.{Pointer}
use Rattle.root_anchor.specs.inside.Rebuilding.{AreApart, met_after}
use Rattle.plain_laws.proofs.Alls.{contains_cases, contains_first, contains_later, contains_nothing}

-- ---- what a list holds

pub contains-one : {X : Type 0} (x y : X) → Contains (x ∷ []) y → x ≡ y
contains-one x y c = elim (contains_cases x [] y c) as (λ _. x ≡ y) [ inl e ↦ e | inr d ↦ absurd (contains_nothing y d) ]

pub holds_or : (xs : List Pointer) (at : Pointer) → Contains xs at ⊎ (¬ Contains xs at)
holds_or [] at = inr (contains_nothing at)
holds_or (x ∷ xs) at = elim (pointer_or x at) as (λ _. Contains (x ∷ xs) at ⊎ (¬ Contains (x ∷ xs) at)) [
  | inl e ↦ (let P : Pointer → Type 0 = λ y. Contains (x ∷ xs) y in inl (subst P e (contains_first x xs)))
  | inr n ↦ elim (holds_or xs at) as (λ _. Contains (x ∷ xs) at ⊎ (¬ Contains (x ∷ xs) at)) [
    | inl c ↦ inl (contains_later x xs at c)
    | inr m ↦ inr (λ c. elim (contains_cases x xs at c) as (λ _. ⊥) [ inl e ↦ n e | inr d ↦ m d ])
  ]
]

-- ---- each once

pub apart-both : (xs ys : List Pointer) → AreApart xs → AreApart ys
    → ((at : Pointer) → Contains xs at → ¬ Contains ys at) → AreApart (xs ++ ys)
apart-both [] ys a b d = b
apart-both (x ∷ xs) ys a b d = (
  (λ c. elim (Contains-append_cases xs ys x c) as (λ _. ⊥) [ inl l ↦ a.0 l | inr r ↦ d x (contains_first x xs) r ]),
  apart-both xs ys a.1 b (λ at c. d at (contains_later x xs at c)),
)

pub apart-left : (xs ys : List Pointer) → AreApart (xs ++ ys) → AreApart xs
apart-left [] ys a = tt
apart-left (x ∷ xs) ys a = ((λ c. a.0 (Contains-append_left xs ys x c)), apart-left xs ys a.1)

pub apart-right : (xs ys : List Pointer) → AreApart (xs ++ ys) → AreApart ys
apart-right [] ys a = a
apart-right (x ∷ xs) ys a = apart-right xs ys a.1

pub apart-disjoint : (xs ys : List Pointer) (at : Pointer) → AreApart (xs ++ ys) → Contains xs at → ¬ Contains ys at
apart-disjoint [] ys at a c = absurd (contains_nothing at c)
apart-disjoint (x ∷ xs) ys at a c = λ d. elim (contains_cases x xs at c) as (λ _. ⊥) [
  | inl e ↦ (let P : Pointer → Type 0 = λ y. Contains ys y in a.0 (Contains-append_right xs ys x (subst P (sym e) d)))
  | inr r ↦ apart-disjoint xs ys at a.1 r d
]

pub apart-pairs : (xs : List Pointer) → AllPairs (λ a b. a ≢ b) xs → AreApart xs
apart-pairs [] h = tt
apart-pairs (x ∷ xs) h = (
  (λ c. h 0 (suc c.0) x (omega arith) (omega (arith, c.1)) (sym c.2)),
  apart-pairs xs (λ i j d l m. h (suc i) (suc j) d (omega arith) (omega arith)),
)

-- ---- met one after the other

pub met-before : (xs met : List Pointer) (at : Pointer) → Contains met at → Contains (met_after xs met) at
met-before [] met at c = c
met-before (x ∷ xs) met at c = met-before xs (x ∷ met) at (contains_later x met at c)

pub met-now : (xs met : List Pointer) (at : Pointer) → Contains xs at → Contains (met_after xs met) at
met-now [] met at c = absurd (contains_nothing at c)
met-now (x ∷ xs) met at c = elim (contains_cases x xs at c) as (λ _. Contains (met_after xs (x ∷ met)) at) [
  | inl e ↦ (let P : Pointer → Type 0 = λ y. Contains (met_after xs (x ∷ met)) y in
      subst P e (met-before xs (x ∷ met) x (contains_first x met)))
  | inr d ↦ met-now xs (x ∷ met) at d
]

pub met-cases : (xs met : List Pointer) (at : Pointer) → Contains (met_after xs met) at → Contains xs at
    ⊎ Contains met at
met-cases [] met at c = inr c
met-cases (x ∷ xs) met at c = elim (met-cases xs (x ∷ met) at c) as (λ _. Contains (x ∷ xs) at ⊎ Contains met at) [
  | inl d ↦ inl (contains_later x xs at d)
  | inr d ↦ elim (contains_cases x met at d) as (λ _. Contains (x ∷ xs) at ⊎ Contains met at) [
    | inl e ↦ (let P : Pointer → Type 0 = λ y. Contains (x ∷ xs) y in inl (subst P e (contains_first x xs)))
    | inr f ↦ inr f
  ]
]

pub met-append : (xs ys met : List Pointer) → met_after (xs ++ ys) met ≡ met_after ys (met_after xs met)
met-append [] ys met = refl
met-append (x ∷ xs) ys met = met-append xs ys (x ∷ met)
