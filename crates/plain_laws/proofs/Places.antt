-- What stands at a place of a list, also behind a change there.
use Rattle.std.proofs.Common.{◌++◌, ◌+◌, ◌<◌, ◌∙◌, ◌∷◌, ◌≡◌, ◌≤◌, ◌⊎◌, Bool, List, None, Some, [], ap, arith, cond, drop, false, get_or, inl, inr, length, map, nat_lt, not, refl, slice_get, slice_set, suc, sym, take, true, zero, ℕ}
use Rattle.std.proofs.lemmas.Bool.{le-ltb, lt-ltb, ltb-false, ltb-true}
use Rattle.std.proofs.lemmas.List.{drop_more}
use Rattle.std.proofs.lemmas.Option.{get_or_from_slice_get, same_Some, slice_get-get_or, slice_get_within}
use Rattle.std.specs.List.{insert, position_or_len}
use Rattle.std.specs.Prelude.{option_map}
use Rattle.plain_laws.proofs.Options.{found_is, none_is_past}

-- nothing stands beyond the end alone
pub beyond_none : {A : Type 0} (xs : List A) (n : ℕ) → slice_get xs n ≡ None → length xs ≤ n
beyond_none [] n none = omega arith
beyond_none (x ∷ xs) zero none = absurd (cc)
beyond_none (x ∷ xs) (suc n) none = let later = beyond_none xs n none in omega (arith, later)

-- what is left of a list from a place on begins with the element there
pub drop_got : {X : Type 0} (xs : List X) (k : ℕ) (x : X) → slice_get xs k ≡ Some x → drop k xs ≡ x ∷ drop (k + 1) xs
drop_got xs k x is =
    drop_more xs k x (slice_get_within xs k x is)
    ∙ ap (λ (y : _). y ∷ drop (k + 1) xs) (get_or_from_slice_get xs k x x is)

-- the place in a list with one element in front
pub next_place : (n len : ℕ) (b : Bool) → nat_lt n len ≡ b
    → cond (nat_lt (1 + n) (suc len)) (Some (1 + n)) None ≡ option_map suc (cond (nat_lt n len) (Some n) None)
next_place n len true is =
    let lt : n < len = ltb-true n len is in
    let more : nat_lt (1 + n) (suc len) ≡ true = lt-ltb _ _ (omega arith) in
    let next : 1 + n ≡ suc n = omega arith in
    rw (more, is) (ap (λ (k : ℕ). Some k) next)
next_place n len false is =
    let le : len ≤ n = ltb-false n len is in
    let more : nat_lt (1 + n) (suc len) ≡ false = le-ltb _ _ (omega arith) in
    rw (more, is) refl

-- the first place that passes, in a list with one element in front
pub first_place : (b : Bool) (n len : ℕ)
    → cond (nat_lt (cond (not b) (1 + n) 0) (suc len)) (Some (cond (not b) (1 + n) 0)) None ≡ cond b (Some 0)
    (option_map suc (cond (nat_lt n len) (Some n) None))
first_place true n len = let yes : nat_lt 0 (suc len) ≡ true = lt-ltb _ _ (omega arith) in rw yes refl
first_place false n len = next_place n len (nat_lt n len) refl

-- in front of what was appended
pub get_left : {X : Type 0} (xs ys : List X) (k : ℕ) → k < length xs → slice_get (xs ++ ys) k ≡ slice_get xs k
get_left [] ys k less = absurd (omega (arith, less))
get_left (x ∷ xs) ys zero less = refl
get_left (x ∷ xs) ys (suc k) less = get_left xs ys k (omega (arith, less))

-- another place stays
pub get_other : {X : Type 0} (xs : List X) (n m : ℕ) (x : X) → (m ≡ n → ⊥)
    → slice_get (slice_set xs n x) m ≡ slice_get xs m
get_other [] n m x ne = refl
get_other (z ∷ xs) zero zero x ne = absurd (ne refl)
get_other (z ∷ xs) zero (suc m) x ne = refl
get_other (z ∷ xs) (suc n) zero x ne = refl
get_other (z ∷ xs) (suc n) (suc m) x ne = get_other xs n m x (λ e. ne (ap suc e))

-- an element outside of those that are changed
pub get_outside : {X : Type 0} (first n end : ℕ) (change : X → X) (xs : List X) (a : ℕ) → end ≡ first + n → (a < first)
    ⊎ (end ≤ a)
    → slice_get (take first xs ++ map change (take n (drop first xs)) ++ drop end xs) a ≡ slice_get xs a
get_outside zero n end change xs a is (inl below) = absurd (omega (arith, below))
get_outside {X} zero n end change xs a is (inr behind) = behind_those n end xs a (omega (arith, is)) behind
  where
    behind_those : (n end : ℕ) (xs : List X) (a : ℕ) → end ≡ n → end ≤ a
        → slice_get (map change (take n xs) ++ drop end xs) a ≡ slice_get xs a
    behind_those zero zero xs a is le = refl
    behind_those zero (suc end) xs a is le = absurd (omega (arith, is))
    behind_those (suc n) zero xs a is le = absurd (omega (arith, is))
    behind_those (suc n) (suc end) [] a is le = refl
    behind_those (suc n) (suc end) (x ∷ xs) zero is le = absurd (omega (arith, le))
    behind_those (suc n) (suc end) (x ∷ xs) (suc a) is le =
        behind_those n end xs a (omega (arith, is)) (omega (arith, le))
get_outside (suc first) n zero change xs a is h = absurd (omega (arith, is))
get_outside (suc first) zero (suc end) change [] a is h = refl
get_outside (suc first) (suc n) (suc end) change [] a is h = refl
get_outside (suc first) n (suc end) change (x ∷ xs) zero is h = refl
get_outside (suc first) n (suc end) change (x ∷ xs) (suc a) is h =
    get_outside first n end change xs a (omega (arith, is)) (less h)
  where
    less : (suc a < suc first) ⊎ (suc end ≤ suc a) → (a < first) ⊎ (end ≤ a)
    less (inl below) = inl (omega (arith, below))
    less (inr behind) = inr (omega (arith, behind))

-- what stands behind a list
pub get_seam : {X : Type 0} (xs ys : List X) (x : X) → slice_get (xs ++ x ∷ ys) (length xs) ≡ Some x
get_seam [] ys x = refl
get_seam (z ∷ zs) ys x = get_seam zs ys x

-- what was set stands there, within the list
pub get_set : {X : Type 0} (xs : List X) (i : ℕ) (a : X) → i < length xs → slice_get (slice_set xs i a) i ≡ Some a
get_set [] i a lt = absurd (omega arith)
get_set (x ∷ xs) zero a lt = refl
get_set (x ∷ xs) (suc i) a lt = get_set xs i a (omega arith)

-- and where something stood
pub get_set_same : {X : Type 0} (xs : List X) (n : ℕ) (x y : X) → slice_get xs n ≡ Some y
    → slice_get (slice_set xs n x) n ≡ Some x
get_set_same [] n x y e = cc
get_set_same (z ∷ xs) zero x y e = refl
get_set_same (z ∷ xs) (suc n) x y e = get_set_same xs n x y e

-- something stands at each place within
pub get_there : {A : Type 0} (xs : List A) (k : ℕ) → k < length xs → (x : A) × (slice_get xs k ≡ Some x)
get_there [] k l = absurd (omega arith)
get_there (x ∷ xs) zero l = (x, refl)
get_there (x ∷ xs) (suc k) l = get_there xs k (omega arith)

-- keys ascend where an element of the same key took the place of another
pub keys_set : {X : Type 0} (key : X → List ℕ) (xs : List X) (n : ℕ) (y x : X) → slice_get xs n ≡ Some y
    → key x ≡ key y → map key (slice_set xs n x) ≡ map key xs
keys_set key [] n y x at e = refl
keys_set key (z ∷ zs) zero y x at e = ap (λ k. k ∷ map key zs) (e ∙ ap key (sym (same_Some z y at)))
keys_set key (z ∷ zs) (suc n) y x at e = ap (λ ks. key z ∷ ks) (keys_set key zs n y x at e)

-- the element that was appended
pub last_at : {X : Type 0} (xs : List X) (x : X) → slice_get (xs ++ x ∷ []) (length xs) ≡ Some x
last_at [] x = refl
last_at (y ∷ xs) x = last_at xs x

-- as long
pub length_set : {X : Type 0} (xs : List X) (n : ℕ) (x : X) → length (slice_set xs n x) ≡ length xs
length_set [] n x = refl
length_set (z ∷ xs) zero x = refl
length_set (z ∷ xs) (suc n) x = ap suc (length_set xs n x)

-- images, with one inserted
pub map_insert : {A B : Type 0} (f : A → B) (xs : List A) (i : ℕ) (x : A)
    → map f (insert xs i x) ≡ insert (map f xs) i (f x)
map_insert f xs zero x = refl
map_insert f [] (suc i) x = refl
map_insert f (y ∷ ys) (suc i) x = ap (λ zs. f y ∷ zs) (map_insert f ys i x)

-- images, with one set
pub map_set : {X Y : Type 0} (f : X → Y) (xs : List X) (n : ℕ) (x : X)
    → map f (slice_set xs n x) ≡ slice_set (map f xs) n (f x)
map_set f [] n x = refl
map_set f (y ∷ ys) zero x = refl
map_set f (y ∷ ys) (suc n) x = ap (λ zs. f y ∷ zs) (map_set f ys n x)

-- the place that was found is where the first word ends
pub place_is : {X : Type 0} (p : X → Bool) (xs : List X) (i : ℕ)
    → cond (nat_lt (position_or_len p xs) (length xs)) (Some (position_or_len p xs)) None ≡ Some i
    → position_or_len p xs ≡ i
place_is p xs i e = found_is _ _ _ e

-- what is left of a list begins with the element
pub rest_at : {X : Type 0} (xs : List X) (i : ℕ) (x : X) → i < length xs → x ≡ get_or xs i x
    → drop i xs ≡ x ∷ drop (i + 1) xs
rest_at xs i x lt is = drop_more xs i x lt ∙ ap (λ (y : _). y ∷ drop (i + 1) xs) (sym is)

-- another place stays, the places the other way round
pub set_elsewhere : {X : Type 0} (xs : List X) (n m : ℕ) (x : X) → (n ≡ m → ⊥) → slice_get (slice_set xs n x) m ≡ slice_get xs m
set_elsewhere [] n m x differ = refl
set_elsewhere (y ∷ ys) zero zero x differ = absurd (differ refl)
set_elsewhere (y ∷ ys) zero (suc m) x differ = refl
set_elsewhere (y ∷ ys) (suc n) zero x differ = refl
set_elsewhere (y ∷ ys) (suc n) (suc m) x differ = set_elsewhere ys n m x (λ e. differ (ap suc e))

-- what was set stands where something stood, the old element first
pub set_here : {X : Type 0} (xs : List X) (n : ℕ) (old x : X) → slice_get xs n ≡ Some old
    → slice_get (slice_set xs n x) n ≡ Some x
set_here [] n old x e = cc
set_here (y ∷ ys) zero old x e = refl
set_here (y ∷ ys) (suc n) old x e = set_here ys n old x e

-- what stood there set anew
pub set_same : {X : Type 0} (xs : List X) (i : ℕ) (x : X) → slice_get xs i ≡ Some x → slice_set xs i x ≡ xs
set_same [] i x h = refl
set_same {X} (y ∷ xs) zero x h = ap (λ (z : X). z ∷ xs) (sym (same_Some y x h))
set_same {X} (y ∷ xs) (suc i) x h = ap (λ (zs : List X). y ∷ zs) (set_same xs i x h)

-- the later one stands
pub set_twice : {X : Type 0} (xs : List X) (n : ℕ) (x y : X) → slice_set (slice_set xs n x) n y ≡ slice_set xs n y
set_twice [] n x y = refl
set_twice (z ∷ zs) zero x y = refl
set_twice (z ∷ zs) (suc n) x y = ap (λ ws. z ∷ ws) (set_twice zs n x y)

-- an element that was read
pub stands_at : {X : Type 0} (xs : List X) (i : ℕ) (x : X) → i < length xs → x ≡ get_or xs i x → slice_get xs i ≡ Some x
stands_at {X} xs i x less is = slice_get-get_or xs i x less ∙ ap (λ (y : X). Some y) (sym is)

-- where none was found the word is the whole
pub whole_is : {X : Type 0} (p : X → Bool) (xs : List X)
    → cond (nat_lt (position_or_len p xs) (length xs)) (Some (position_or_len p xs)) None ≡ None
    → length xs ≤ position_or_len p xs
whole_is p xs e = none_is_past _ _ e
