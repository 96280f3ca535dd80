-- What lists contain after edits, states by place, and notes that never fall.
use Rattle.std.proofs.Common.{◌≡◌, ℕ, zero, suc, ◌<◌, ◌≤◌, List, [], ◌∷◌, ◌++◌, map, length, Some, None, ◌⊎◌, inl, inr, refl, sym, ◌∙◌, ap, subst, Bool, true, false, nat_eq, ◌||◌, arith, set, slice_get, slice_set, replicate}
use Rattle.std.specs.List.{Contains, filter, flat_map, list_any}
use Rattle.std.proofs.lemmas.Bool.{cases_eq, cases_Bool}
use Rattle.std.proofs.lemmas.Grind.{common_steps}
use Rattle.std.proofs.lemmas.List.{get_or-set_same, get_or-set_other, get_or_append_left}
use Rattle.std.proofs.lemmas.List.Elements.{All-contains, All-contains_itself, All-weaker, All-set, All-filter, All-map, filter_passes, Contains-append_left, Contains-append_right, Contains-append_cases, Contains-push, Contains-push_cases}
use Rattle.std.proofs.lemmas.Option.{slice_get_within, get_or_from_slice_get, slice_get-get_or, unwrap_or-slice_get, none-some, same_Some}
use Rattle.std.proofs.Math.Seq.{get_or-append_seam}
use Rattle.fp_model.specs.declared.database.Db.{Db}
use Rattle.fp_model.specs.Serial.{state_at}
use Rattle.fp_model.specs.SerialHistory.{NeverFalls}
use Rattle.plain_laws.proofs.Alls.{contains_cases, contains_first, contains_later, contains_nothing}

-- ---- numbers and tests

-- numbers as tests
pub eqb_same : (a : ℕ) → nat_eq a a ≡ true
eqb_same a = grind (arith, common_steps)

pub eqb_other : (a b : ℕ) → ¬ (a ≡ b) → nat_eq a b ≡ false
eqb_other a b ne = grind (arith, common_steps)

pub eqb_is : (a b : ℕ) → nat_eq a b ≡ true → a ≡ b
eqb_is a b e = grind (arith, common_steps)

pub true_is_not_false : true ≡ false → ⊥
true_is_not_false e = cc

-- ---- what a list contains

-- an element that a filter left
pub contains_in_filter : {X : Type 0} (p : X → Bool) (xs : List X) (x : X) → Contains (filter p xs) x → Contains xs x
    × (p x ≡ true)
contains_in_filter p xs x c = (
  All-contains (λ y. Contains xs y) (filter p xs) x (All-filter p (λ y. Contains xs y) xs (All-contains_itself xs)) c,
  All-contains (λ y. p y ≡ true) (filter p xs) x (filter_passes p xs) c,
)

-- an element that a filter leaves
pub filter_contains : {X : Type 0} (p : X → Bool) (xs : List X) (x : X) → Contains xs x → p x ≡ true
    → Contains (filter p xs) x
filter_contains p [] x c is = c
filter_contains p (y ∷ ys) x c is = elim (contains_cases y ys x c) [
  | inl same ↦ let now : p y ≡ true = ap p same ∙ is in
      rw now (subst (λ z. Contains (y ∷ filter p ys) z) same (contains_first y (filter p ys)))
  | inr there ↦ elim (cases_Bool (p y)) [
    | inl is_so ↦ rw is_so (contains_later y (filter p ys) x (filter_contains p ys x there is))
    | inr is_not ↦ rw is_not (filter_contains p ys x there is)
  ]
]

-- an element of a mapped list
pub contains_in_map : {X Y : Type 0} (f : X → Y) (xs : List X) (y : Y) → Contains (map f xs) y → (x : X)
    × (Contains xs x × (y ≡ f x))
contains_in_map {X} {Y} f xs y c =
    let P : Y → Type 0 = λ z. (x : X) × (Contains xs x × (z ≡ f x)) in
    All-contains P (map f xs) y (All-map P f xs (All-weaker (λ x. Contains xs x) (λ x. P (f x))
    (λ x here. (x, (here, refl))) xs (All-contains_itself xs))) c

-- an element of joined lists
pub contains_in_flat_map : {X Y : Type 0} (f : X → List Y) (xs : List X) (y : Y) → Contains (flat_map f xs) y → (x : X)
    × (Contains xs x × Contains (f x) y)
contains_in_flat_map f [] y c = absurd (contains_nothing y c)
contains_in_flat_map f (z ∷ zs) y c = elim (Contains-append_cases (f z) (flat_map f zs) y c) [
  | inl here ↦ (z, (contains_first z zs, here))
  | inr there ↦ let rest = contains_in_flat_map f zs y there in
      (rest.0, (contains_later z zs rest.0 rest.1.0, rest.1.1))
]

-- what stands in a list after a write
pub contains_in_set : {X : Type 0} (xs : List X) (i : ℕ) (a x : X) → Contains (slice_set xs i a) x → (x ≡ a)
    ⊎ Contains xs x
contains_in_set {X} xs i a x c =
    let P : X → Type 0 = λ y. (y ≡ a) ⊎ Contains xs y in
    All-contains P (set xs i a) x (All-set P xs i a (inl refl)
    (All-weaker (λ y. Contains xs y) P (λ y here. inr here) xs (All-contains_itself xs))) c

-- no element passes a test that none passes
pub none_passes : {X : Type 0} (p : X → Bool) (xs : List X) (x : X) → list_any p xs ≡ false → Contains xs x
    → p x ≡ false
none_passes p [] x none c = absurd (contains_nothing x c)
none_passes p (y ∷ ys) x none c = elim (contains_cases y ys x c) [
  | inl same ↦ ap p (sym same) ∙ left_false (p y) (list_any p ys) none
  | inr there ↦ none_passes p ys x (right_false (p y) (list_any p ys) none) there
]
  where
    left_false : (a b : Bool) → (a || b) ≡ false → a ≡ false
    left_false true b e = e
    left_false false b e = refl

    right_false : (a b : Bool) → (a || b) ≡ false → b ≡ false
    right_false true b e = absurd (true_is_not_false e)
    right_false false b e = e

-- ---- elements at a place

-- at the place written
set_here : {A : Type 0} (xs : List A) (r : ℕ) (a x : A) → slice_get (slice_set xs r a) r ≡ Some x → x ≡ a
set_here xs r a x e =
    let within : r < length (set xs r a) = slice_get_within (set xs r a) r x e in
    let short : r < length xs = grind (arith, common_steps, within) in
    sym (get_or_from_slice_get (set xs r a) r x x e) ∙ get_or-set_same xs r a x short

-- at another place
set_there : {A : Type 0} (xs : List A) (r s : ℕ) (a x : A) → ¬ (s ≡ r) → slice_get (slice_set xs r a) s ≡ Some x
    → slice_get xs s ≡ Some x
set_there xs r s a x ne e =
    let within : s < length (set xs r a) = slice_get_within (set xs r a) s x e in
    let short : s < length xs = grind (arith, common_steps, within) in
    slice_get-get_or xs s x short ∙ ap (λ y. Some y)
    (sym (get_or-set_other xs r s a x ne) ∙ get_or_from_slice_get (set xs r a) s x x e)

-- what stands at a place after a write
pub put_cases : {A : Type 0} (xs : List A) (r s : ℕ) (a x : A) → slice_get (slice_set xs r a) s ≡ Some x
    → ((s ≡ r) × (x ≡ a)) ⊎ (¬ (s ≡ r) × (slice_get xs s ≡ Some x))
put_cases xs r s a x e = elim (cases_eq s r) [
  | inl same ↦ inl (same, set_here xs r a x (subst (λ (q : ℕ). slice_get (slice_set xs r a) q ≡ Some x) same e))
  | inr ne ↦ inr (ne, set_there xs r s a x ne e)
]

-- a list of one value has no other
pub mapped_to : {A B : Type 0} (xs : List B) (s : ℕ) (a x : A) → slice_get (map (λ b. a) xs) s ≡ Some x → x ≡ a
mapped_to [] s a x e = absurd (none-some x e)
mapped_to (b ∷ bs) zero a x e = sym (same_Some a x e)
mapped_to (b ∷ bs) (suc s) a x e = mapped_to bs s a x e

-- a list of copies has no other
pub replicated : {A : Type 0} (n : ℕ) (a x : A) → Contains (replicate n a) x → x ≡ a
replicated zero a x c = absurd (contains_nothing x c)
replicated (suc n) a x c = elim (contains_cases a (replicate n a) x c)
    [ inl same ↦ sym same | inr there ↦ replicated n a x there ]

-- ---- states by place

-- the state now stands behind those past
pub last_state : (start : Db) (past : List Db) (now : Db) → state_at start (past ++ now ∷ []) (length past) ≡ now
last_state start past now = unwrap_or-slice_get (past ++ now ∷ []) (length past) start ∙ get_or-append_seam past now []
    start

-- a state more leaves the earlier ones
pub state_stays : (start : Db) (states : List Db) (next : Db) (place : ℕ) → place < length states
    → state_at start (states ++ next ∷ []) place ≡ state_at start states place
state_stays start states next place h =
    unwrap_or-slice_get (states ++ next ∷ []) place start ∙ get_or_append_left states (next ∷ []) start place h ∙ sym
    (unwrap_or-slice_get states place start)

-- and there are more of them
pub longer : {X : Type 0} (xs : List X) (x : X) → length xs < length (xs ++ x ∷ [])
longer xs x = grind (arith, common_steps)

-- ---- notes

-- notes stay in order at a later place
pub never_falls_later : (from : ℕ) (notes : List ℕ) (place later : ℕ) → NeverFalls from notes place → place ≤ later
    → NeverFalls from notes later
never_falls_later from [] place later h le = omega (arith, h, le)
never_falls_later from (k ∷ ks) place later h le = (h.0, never_falls_later k ks place later h.1 le)

-- one more note, at this place
pub never_falls_with : (from : ℕ) (notes : List ℕ) (place : ℕ) → NeverFalls from notes place
    → NeverFalls from (notes ++ place ∷ []) place
never_falls_with from [] place h = (h, omega arith)
never_falls_with from (k ∷ ks) place h = (h.0, never_falls_with k ks place h.1)

-- a transaction began before this place
pub from_below : (from : ℕ) (notes : List ℕ) (place : ℕ) → NeverFalls from notes place → from ≤ place
from_below from [] place h = h
from_below from (k ∷ ks) place h = let e = from_below k ks place h.1 in omega (arith, h.0, e)
