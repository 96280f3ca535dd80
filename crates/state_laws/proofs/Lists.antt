-- Elements at a place, and two lists element by element.
use Rattle.std.proofs.Common.{◌≡◌, ℕ, zero, suc, List, [], ◌∷◌, Some, subst, Bool, true, false, slice_get}
use Rattle.std.specs.Prelude.{filter, find, if◌then◌else◌}
use Rattle.std.specs.List.{AllByRecursion, AllZip, IsDistinct}
use Rattle.std.proofs.lemmas.Option.{none-some, same_Some}

pub true_is_not_false : true ≡ false → ⊥
true_is_not_false e = cc

-- what is found has what all have
pub found_has : {X : Type 0} (P : X → Type 0) (p : X → Bool) (xs : List X) (x : X) → AllByRecursion P xs
    → find p xs ≡ Some x → P x
found_has P p [] x all e = absurd (none-some x e)
found_has {X} P p (y ∷ ys) x all e = by (p y) e (λ f. found_has P p ys x all.1 f)
  where
    by : (b : Bool) → (if b then Some y else find p ys) ≡ Some x → (find p ys ≡ Some x → P x) → P x
    by true e later = subst P (same_Some y x e) all.0
    by false e later = later e

-- partners at a place have the relation
pub each_at : {A B : Type 0} (R : A → B → Type 0) (xs : List A) (ys : List B) (n : ℕ) (x : A) (y : B) → AllZip R xs ys
    → slice_get xs n ≡ Some x → slice_get ys n ≡ Some y → R x y
each_at R [] ys n x y all at there = absurd (none-some x at)
each_at R (a ∷ xs) [] n x y all at there = absurd all
each_at {A} {B} R (a ∷ xs) (b ∷ ys) zero x y all at there =
    subst (λ z. R z y) (same_Some a x at) (subst (λ z. R a z) (same_Some b y there) all.0)
each_at R (a ∷ xs) (b ∷ ys) (suc n) x y all at there = each_at R xs ys n x y all.1 at there

pub all_at : {X : Type 0} (P : X → Type 0) (xs : List X) (n : ℕ) (x : X) → AllByRecursion P xs → slice_get xs n ≡ Some x
    → P x
all_at P [] n x all at = absurd (none-some x at)
all_at P (y ∷ ys) zero x all at = subst P (same_Some y x at) all.0
all_at P (y ∷ ys) (suc n) x all at = all_at P ys n x all.1 at

-- ---- filters

pub all_filter : {X : Type 0} (P : X → Type 0) (p : X → Bool) (xs : List X) → AllByRecursion P xs
    → AllByRecursion P (filter p xs)
all_filter P p [] all = tt
all_filter {X} P p (x ∷ xs) all = by (p x) (all_filter P p xs all.1)
  where
    by : (b : Bool) → AllByRecursion P (filter p xs) → AllByRecursion P (if b then x ∷ filter p xs else filter p xs)
    by true rest = (all.0, rest)
    by false rest = rest

pub distinct_filter : {X : Type 0} (e : X → X → Bool) (p : X → Bool) (xs : List X) → IsDistinct e xs
    → IsDistinct e (filter p xs)
unfolding IsDistinct
distinct_filter e p [] d = d
distinct_filter {X} e p (x ∷ xs) d = by (p x) (all_filter (λ y. e x y ≡ false) p xs d.0) (distinct_filter e p xs d.1)
  where
    by : (b : Bool) → AllByRecursion (λ y. e x y ≡ false) (filter p xs) → IsDistinct e (filter p xs)
        → IsDistinct e (if b then x ∷ filter p xs else filter p xs)
    by true head rest = (head, rest)
    by false head rest = rest
