-- Two lists of which each place is related, sums over places, and lists with one element more.
use Rattle.std.proofs.Common.{◌≡◌, refl, sym, ap, subst, arith, ℕ, zero, suc, ◌+◌, ◌≤◌, List, [], ◌∷◌, ◌++◌, length, Some, slice_get, slice_set}
use Rattle.std.specs.Prelude.{Result, Ok, Err, OnOk, IsOk, sum_by}
use Rattle.std.specs.List.{AllZip, AllByRecursion}
use Rattle.std.proofs.lemmas.List.Sums.{sum_by-cons}
use Rattle.std.proofs.lemmas.Option.{same_Some}

-- ---- related lists

-- what the first has where the second has this
pub record LeftOf {A B : Type 0} (R : A → B → Type 0) (xs : List A) (place : ℕ) (b : B) : Type 0 where
  pub left : A
  pub there : slice_get xs place ≡ Some left
  pub is : R left b

pub left_of : {A B : Type 0} (R : A → B → Type 0) (xs : List A) (ys : List B) (place : ℕ) (b : B)
    → AllZip R xs ys → slice_get ys place ≡ Some b → LeftOf R xs place b
left_of R [] [] place b h e = absurd cc
left_of R [] (y ∷ ys) place b h e = absurd h
left_of R (x ∷ xs) [] place b h e = absurd h
left_of R (x ∷ xs) (y ∷ ys) zero b h e = record { left = x; there = refl; is = subst (R x) (same_Some y b e) h.0 }
left_of R (x ∷ xs) (y ∷ ys) (suc n) b h e =
    let rest = left_of R xs ys n b h.1 e in
    record { left = rest.left; there = rest.there; is = rest.is }

-- and what the second has where the first has this
pub record RightOf {A B : Type 0} (R : A → B → Type 0) (ys : List B) (place : ℕ) (a : A) : Type 0 where
  pub right : B
  pub there : slice_get ys place ≡ Some right
  pub is : R a right

pub right_of : {A B : Type 0} (R : A → B → Type 0) (xs : List A) (ys : List B) (place : ℕ) (a : A)
    → AllZip R xs ys → slice_get xs place ≡ Some a → RightOf R ys place a
right_of R [] [] place a h e = absurd cc
right_of R [] (y ∷ ys) place a h e = absurd h
right_of R (x ∷ xs) [] place a h e = absurd h
right_of R (x ∷ xs) (y ∷ ys) zero a h e =
    record { right = y; there = refl; is = subst (λ q. R q y) (same_Some x a e) h.0 }
right_of R (x ∷ xs) (y ∷ ys) (suc n) a h e =
    let rest = right_of R xs ys n a h.1 e in
    record { right = rest.right; there = rest.there; is = rest.is }

-- one place is changed in both,
pub put_both : {A B : Type 0} (R : A → B → Type 0) (xs : List A) (ys : List B) (place : ℕ) (a : A) (b : B)
    → AllZip R xs ys → R a b → AllZip R (slice_set xs place a) (slice_set ys place b)
put_both R [] [] place a b h new = tt
put_both R [] (y ∷ ys) place a b h new = absurd h
put_both R (x ∷ xs) [] place a b h new = absurd h
put_both R (x ∷ xs) (y ∷ ys) zero a b h new = (new, h.1)
put_both R (x ∷ xs) (y ∷ ys) (suc n) a b h new = (h.0, put_both R xs ys n a b h.1 new)

-- or in the first alone
pub put_left : {A B : Type 0} (R : A → B → Type 0) (xs : List A) (ys : List B) (place : ℕ) (a : A) (b : B)
    → AllZip R xs ys → slice_get ys place ≡ Some b → R a b → AllZip R (slice_set xs place a) ys
put_left R [] [] place a b h e new = tt
put_left R [] (y ∷ ys) place a b h e new = absurd h
put_left R (x ∷ xs) [] place a b h e new = absurd h
put_left R (x ∷ xs) (y ∷ ys) zero a b h e new = (subst (R a) (sym (same_Some y b e)) new, h.1)
put_left R (x ∷ xs) (y ∷ ys) (suc n) a b h e new = (h.0, put_left R xs ys n a b h.1 e new)

-- ---- places

-- ---- one element more

pub get_last : {A : Type 0} (xs : List A) (y : A) (place : ℕ) → place ≡ length xs
    → slice_get (xs ++ y ∷ []) place ≡ Some y
get_last [] y zero is = refl
get_last [] y (suc n) is = absurd (omega (arith, is))
get_last (x ∷ xs) y zero is = absurd (omega (arith, is))
get_last (x ∷ xs) y (suc n) is = get_last xs y n (omega (arith, is))

-- ---- sums

-- where one place is changed
pub sum_put : {A : Type 0} (f : A → ℕ) (xs : List A) (place : ℕ) (new old : A)
    → slice_get xs place ≡ Some old → sum_by f (slice_set xs place new) + f old ≡ sum_by f xs + f new
sum_put f [] place new old there = absurd cc
sum_put f (x ∷ xs) zero new old there =
    let same : f x ≡ f old = ap f (same_Some x old there) in
    omega (arith, same, sum_by-cons f x xs, sum_by-cons f new xs)
sum_put f (x ∷ xs) (suc i) new old there =
    omega (arith, sum_put f xs i new old there, sum_by-cons f x xs, sum_by-cons f x (slice_set xs i new))

-- one element is at most the sum
pub sum_has : {A : Type 0} (f : A → ℕ) (xs : List A) (place : ℕ) (x : A)
    → slice_get xs place ≡ Some x → f x ≤ sum_by f xs
sum_has f [] place x there = absurd cc
sum_has f (y ∷ ys) zero x there =
    let same : f y ≡ f x = ap f (same_Some y x there) in
    omega (arith, same, sum_by-cons f y ys)
sum_has f (y ∷ ys) (suc i) x there = omega (arith, sum_has f ys i x there, sum_by-cons f y ys)

-- ---- what is so of each

pub each_has : {A : Type 0} (P : A → Type 0) (xs : List A) (place : ℕ) (x : A)
    → AllByRecursion P xs → slice_get xs place ≡ Some x → P x
each_has P [] place x h e = absurd cc
each_has P (y ∷ ys) zero x h e = subst P (same_Some y x e) h.0
each_has P (y ∷ ys) (suc n) x h e = each_has P ys n x h.1 e

-- ---- results

-- what is so of a good answer, where it is good
pub surely : {A E : Type 0} (P : Type 0) (r : Result A E) → IsOk r → OnOk r P → P
surely P (Ok a) ok h = h
surely P (Err e) ok h = absurd cc
