-- What holds of each element of a list, and which elements it contains.
use Rattle.std.proofs.Common.{◌++◌, ◌<◌, ◌∙◌, ◌∷◌, ◌≡◌, ◌⊎◌, Bool, List, None, Option, Some, [], ap, arith, false, inl, inr, length, map, refl, slice_get, slice_set, subst, suc, sym, take, true, zero, ℕ}
use Rattle.std.proofs.lemmas.List.Elements.{Contains-append_cases, Contains-append_left, Contains-append_right, Contains-push_cases}
use Rattle.std.proofs.lemmas.Option.{none-some, same_Some}
use Rattle.std.specs.List.{AllByRecursion, AllZip, flat_map, list_all}
use Rattle.std.specs.Map.{lookup}
use Rattle.std.specs.Prelude.{Contains, filter, find, if◌then◌else◌}
use Rattle.plain_laws.proofs.Truths.{first_of_both, second_of_both}

-- of a list behind a list
pub all_append : {X : Type 0} (P : X → Type 0) (xs ys : List X) → AllByRecursion P xs → AllByRecursion P ys
    → AllByRecursion P (xs ++ ys)
all_append P [] ys a b = b
all_append P (x ∷ xs) ys a b = (a.0, all_append P xs ys a.1 b)

-- what a test says of each element
pub all_of_list_all : {X : Type 0} (p : X → Bool) (xs : List X) → list_all p xs ≡ true → AllByRecursion (λ x. p x ≡ true) xs
all_of_list_all p [] e = tt
all_of_list_all p (x ∷ xs) e = (first_of_both (p x) (list_all p xs) e, all_of_list_all p xs (second_of_both (p x) (list_all p xs) e))

-- of one element more
pub all_push : {X : Type 0} (P : X → Type 0) (xs : List X) (x : X) → AllByRecursion P xs → P x
    → AllByRecursion P (xs ++ x ∷ [])
all_push P [] x all p = (p, tt)
all_push P (y ∷ ys) x all p = (all.0, all_push P ys x all.1 p)

-- the same, the element first
pub all_pushed : {X : Type 0} (P : X → Type 0) (xs : List X) (y : X) → P y → AllByRecursion P xs
    → AllByRecursion P (xs ++ y ∷ [])
all_pushed P [] y one all = (one, tt)
all_pushed P (x ∷ xs) y one all = (all.0, all_pushed P xs y one all.1)

-- with another element at a place
pub all_set : {X : Type 0} (P : X → Type 0) (xs : List X) (n : ℕ) (y : X) → AllByRecursion P xs → P y
    → AllByRecursion P (slice_set xs n y)
all_set P [] n y all one = tt
all_set P (x ∷ xs) zero y all one = (one, all.1)
all_set P (x ∷ xs) (suc n) y all one = (all.0, all_set P xs n y all.1 one)

-- of a front
pub all_taken : {X : Type 0} (P : X → Type 0) (n : ℕ) (xs : List X) → AllByRecursion P xs → AllByRecursion P (take n xs)
all_taken P zero xs all = tt
all_taken P (suc n) [] all = tt
all_taken P (suc n) (x ∷ xs) all = (all.0, all_taken P n xs all.1)

-- of which more is said
pub all_weaker : {X : Type 0} (P Q : X → Type 0) (xs : List X) → ((x : X) → P x → Q x) → AllByRecursion P xs
    → AllByRecursion Q xs
all_weaker P Q [] f all = tt
all_weaker P Q (x ∷ xs) f all = (f x all.0, all_weaker P Q xs f all.1)

-- no list contains nothing
pub contains_nothing : {X : Type 0} (x : X) → Contains [] x → ⊥
contains_nothing x h = absurd (omega (arith, h.1))

-- an element is the first or behind it
pub contains_cases : {X : Type 0} (y : X) (xs : List X) (x : X) → Contains (y ∷ xs) x → (y ≡ x) ⊎ Contains xs x
contains_cases y xs x c = elim (Contains-append_cases (y ∷ []) xs x c) [
  | inl here ↦ elim (Contains-push_cases [] y x here)
      [ inl none ↦ absurd (contains_nothing x none) | inr same ↦ inl same ]
  | inr there ↦ inr there
]

-- the first one
pub contains_first : {X : Type 0} (x : X) (xs : List X) → Contains (x ∷ xs) x
contains_first x xs = (0, omega arith, refl)

-- one behind it
pub contains_later : {X : Type 0} (y : X) (xs : List X) (x : X) → Contains xs x → Contains (y ∷ xs) x
contains_later y xs x h = Contains-append_right (y ∷ []) xs x h

-- one pair more
pub each_push : {X Y : Type 0} (P : X → Y → Type 0) (xs : List X) (ys : List Y) (x : X) (y : Y) → AllZip P xs ys → P x y
    → AllZip P (xs ++ x ∷ []) (ys ++ y ∷ [])
each_push P [] [] x y all p = (p, tt)
each_push P [] (b ∷ ys) x y all p = absurd all
each_push P (a ∷ xs) [] x y all p = absurd all
each_push P (a ∷ xs) (b ∷ ys) x y all p = (all.0, each_push P xs ys x y all.1 p)

-- with another element at a place that has the relation to its partner there
pub each_set : {A B : Type 0} (R : A → B → Type 0) (xs : List A) (ys : List B) (n : ℕ) (x : A) (y : B) → AllZip R xs ys
    → slice_get xs n ≡ Some x → R x y → AllZip R xs (slice_set ys n y)
each_set R [] [] n x y all at one = tt
each_set R [] (b ∷ ys) n x y all at one = absurd all
each_set R (a ∷ xs) [] n x y all at one = absurd all
each_set R (a ∷ xs) (b ∷ ys) zero x y all at one = (subst (λ z. R z y) (sym (same_Some a x at)) one, all.1)
each_set R (a ∷ xs) (b ∷ ys) (suc n) x y all at one = (all.0, each_set R xs ys n x y all.1 at one)

-- two tests that say the same find the same
pub find_alike : {X : Type 0} (p q : X → Bool) (xs : List X) → ((x : X) → p x ≡ q x) → find p xs ≡ find q xs
find_alike p q [] h = refl
find_alike p q (x ∷ xs) h = rw (h x) (ap (λ (o : Option _). if q x then Some x else o) (find_alike p q xs h))

not_both : true ≡ false → ⊥
not_both e = cc

-- without elements that aren't looked for
pub find_kept : {X : Type 0} (p q : X → Bool) (xs : List X) → ((x : X) → p x ≡ true → q x ≡ true)
    → find p (filter q xs) ≡ find p xs
find_kept p q [] h = refl
find_kept p q (x ∷ xs) h = by (q x) refl (find_kept p q xs h)
  where
    either : (here : Bool) → p x ≡ here → q x ≡ false → find p (filter q xs) ≡ find p xs
        → find p (filter q xs) ≡ (if here then Some x else find p xs)
    either true here is later = absurd (not_both (sym (h x here) ∙ is))
    either false here is later = later

    by : (b : Bool) → q x ≡ b → find p (filter q xs) ≡ find p xs
        → find p (if b then x ∷ filter q xs else filter q xs) ≡ find p (x ∷ xs)
    by true is later = ap (λ o. if p x then Some x else o) later
    by false is later = either (p x) refl is later

-- what passes for none finds none
pub find_none : {X : Type 0} (p : X → Bool) (xs : List X) → ((x : X) → p x ≡ false) → find p xs ≡ None
find_none p [] h = refl
find_none p (x ∷ xs) h = rw (h x) (find_none p xs h)

-- an element of one of them
pub flat_map_contains : {X Y : Type 0} (f : X → List Y) (xs : List X) (x : X) (y : Y) → Contains xs x → Contains (f x) y
    → Contains (flat_map f xs) y
flat_map_contains f [] x y c d = absurd (contains_nothing x c)
flat_map_contains f (z ∷ zs) x y c d = elim (contains_cases z zs x c) [
  | inl same ↦ Contains-append_left (f z) (flat_map f zs) y (subst (λ q. Contains (f q) y) (sym same) d)
  | inr there ↦ Contains-append_right (f z) (flat_map f zs) y (flat_map_contains f zs x y there d)
]

-- what is found stands there
pub found_is_there : {X : Type 0} (p : X → Bool) (xs : List X) (x : X) → find p xs ≡ Some x → Contains xs x
found_is_there p [] x e = absurd (none-some x e)
found_is_there {X} p (y ∷ ys) x e = by (p y) e (λ f. found_is_there p ys x f)
  where
    by : (b : Bool) → (if b then Some y else find p ys) ≡ Some x → (find p ys ≡ Some x → Contains ys x)
        → Contains (y ∷ ys) x
    by true e later = subst (λ z. Contains (y ∷ ys) z) (same_Some y x e) (contains_first y ys)
    by false e later = contains_later y ys x (later e)

-- and passes
pub found_passes : {X : Type 0} (p : X → Bool) (xs : List X) (x : X) → find p xs ≡ Some x → p x ≡ true
found_passes p [] x e = absurd (none-some x e)
found_passes {X} p (y ∷ ys) x e = by (p y) refl e (λ f. found_passes p ys x f)
  where
    by : (b : Bool) → p y ≡ b → (if b then Some y else find p ys) ≡ Some x → (find p ys ≡ Some x → p x ≡ true)
        → p x ≡ true
    by true is e later = subst (λ z. p z ≡ true) (same_Some y x e) is
    by false is e later = later e

-- what stands in a list is contained in it
pub get_contains : {A : Type 0} (xs : List A) (i : ℕ) (x : A) → slice_get xs i ≡ Some x → Contains xs x
get_contains [] i x e = absurd (none-some x e)
get_contains (y ∷ ys) zero x e = subst (λ z. Contains (y ∷ ys) z) (same_Some y x e) (contains_first y ys)
get_contains (y ∷ ys) (suc i) x e = contains_later y ys x (get_contains ys i x e)

-- a test that one more passes too
pub list_all_push : {X : Type 0} (p : X → Bool) (xs : List X) (x : X) → list_all p xs ≡ true → p x ≡ true
    → list_all p (xs ++ x ∷ []) ≡ true
list_all_push p [] x a b = rw b refl
list_all_push p (z ∷ zs) x a b = rw (first_of_both (p z) (list_all p zs) a)
    (list_all_push p zs x (second_of_both (p z) (list_all p zs) a) b)

-- the image of an element
pub map_contains : {X Y : Type 0} (f : X → Y) (xs : List X) (x : X) → Contains xs x → Contains (map f xs) (f x)
map_contains f [] x c = absurd (contains_nothing x c)
map_contains f (z ∷ zs) x c = elim (contains_cases z zs x c) [
  | inl same ↦ subst (λ q. Contains (f z ∷ map f zs) (f q)) same (contains_first (f z) (map f zs))
  | inr there ↦ contains_later (f z) (map f zs) (f x) (map_contains f zs x there)
]

-- a map without entries has nothing at any key
pub no_entries : {X : Type 0} (test : ℕ → Bool) (es : List (ℕ × X)) → (0 < length es → false ≡ true)
    → lookup test es ≡ None
no_entries test [] none = refl
no_entries test (e ∷ es) none = let both = none (omega arith) in absurd cc
