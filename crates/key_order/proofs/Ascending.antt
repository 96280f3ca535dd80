-- Elements with ascending keys: where a key stands among them, and what that says of searches and edits.
use Rattle.std.proofs.Common.{Ordering, Less, Equal, Greater, ◌≡◌, ℕ, zero, suc, ◌<◌, ◌≤◌, ◌-◌, List, [], ◌∷◌, ◌++◌, map, length, take, Some, None, refl, sym, ◌∙◌, ap, subst, Bool, true, false, slice_get, slice_set, slice_index_or, Option, arith}
use Rattle.std.specs.Prelude.{find, if◌then◌else◌}
use Rattle.std.specs.List.{AllByRecursion, insert, remove}
use Rattle.std.specs.List.Sorted.{IsPartitionedBy}
use Rattle.std.specs.Ordering.{nat_cmp, is_lt}
use Rattle.std.specs.Cmp.Lexicographic.{slice_cmp}
use Rattle.std.proofs.lemmas.Cmp.{nat_list_cmp_total, tied_itself}
use Rattle.std.proofs.lemmas.Map.Lookups.{exact_bytes}
use Rattle.fp_model.specs.State.{is_below, ascend, change_key, put_by_key, drop_key}
use Rattle.fp_model.specs.Texts.{same_text}
use Rattle.key_order.specs.Places.{IsPlace, if_same}
use Rattle.plain_laws.proofs.Lists.{drop_nil, take_nil}
use Rattle.plain_laws.proofs.Truths.{first_of_both, second_of_both}
use Rattle.model_laws.proofs.Texts.{same_text_is, text_is_same}
use Rattle.plain_laws.proofs.Orderings.{neither_less}
use Rattle.std.proofs.lemmas.Option.{none-some, same_Some}

-- ---- tests

pub not_both : true ≡ false → ⊥
not_both e = cc

-- ---- keys

lt_less : (o : Ordering) → is_lt o ≡ true → o ≡ Less
lt_less Less e = refl
lt_less Equal e = absurd (not_both (sym e))
lt_less Greater e = absurd (not_both (sym e))

pub below_trans : (a b c : List ℕ) → is_below a b ≡ true → is_below b c ≡ true → is_below a c ≡ true
below_trans a b c ab bc = ap is_lt (nat_list_cmp_total.trans a b c (lt_less _ ab) (lt_less _ bc))

pub not_below_itself : (a : List ℕ) → is_below a a ≡ false
not_below_itself a = ap is_lt (tied_itself nat_list_cmp_total a)

-- what is below isn't the same
pub below_differs : (a b : List ℕ) → is_below a b ≡ true → same_text a b ≡ false
below_differs a b less = by (same_text a b) refl
  where
    by : (t : Bool) → same_text a b ≡ t → t ≡ false
    by true e = absurd (not_both (sym less ∙ ap (λ k. is_below k b) (same_text_is a b e) ∙ not_below_itself b))
    by false e = refl

pub same_or_above : (a b : List ℕ) → is_below a b ≡ false → same_text a b ≡ false → is_below b a ≡ true
same_or_above a b below same = by (is_below b a) refl
  where
    by : (t : Bool) → is_below b a ≡ t → t ≡ true
    by true e = refl
    by false e = absurd (not_both (sym (text_is_same b) ∙ ap (λ k. same_text k b)
        (sym (exact_bytes a b (neither_less (slice_cmp nat_cmp a b) (slice_cmp nat_cmp b a) (nat_list_cmp_total.antisymm a b)
        below e))) ∙ same))

-- what is below is not above
pub not_above : (a b : List ℕ) → is_below a b ≡ true → is_below b a ≡ false
not_above a b less = by (is_below b a) refl
  where
    by : (t : Bool) → is_below b a ≡ t → t ≡ false
    by true e = absurd (not_both (sym (below_trans a b a less e) ∙ not_below_itself a))
    by false e = refl

pub differs_back : (a b : List ℕ) → same_text a b ≡ false → same_text b a ≡ false
differs_back a b e = by (same_text b a) refl
  where
    by : (t : Bool) → same_text b a ≡ t → t ≡ false
    by true f = absurd (not_both (sym (text_is_same b) ∙ ap (λ k. same_text k b) (same_text_is b a f) ∙ e))
    by false f = refl

-- ---- elements

pub all_at : {X : Type 0} (P : X → Type 0) (xs : List X) (i : ℕ) (d : X) → AllByRecursion P xs → i < length xs
    → P (slice_index_or xs i d)
all_at P [] i d all within = absurd (omega (arith, within))
all_at P (x ∷ xs) zero d all within = all.0
all_at P (x ∷ xs) (suc i) d all within = all_at P xs i d all.1 (omega (arith, within))

module _ {X : Type 0} (key : X → List ℕ) where
  abbrev pub IsAscending : List X → Type 0
  IsAscending xs = ascend (map key xs) ≡ true

  -- behind an element all are above it
  pub all_above : (x : X) (xs : List X) → IsAscending (x ∷ xs)
      → AllByRecursion (λ y. is_below (key x) (key y) ≡ true) xs
  all_above x [] up = tt
  all_above x (y ∷ ys) up =
      let first = first_of_both (is_below (key x) (key y)) (ascend (map key (y ∷ ys))) up in
      let later = all_above y ys (second_of_both (is_below (key x) (key y)) (ascend (map key (y ∷ ys))) up) in
      (first, above ys later first)
    where
      above : (zs : List X) → AllByRecursion (λ z. is_below (key y) (key z) ≡ true) zs → is_below (key x) (key y) ≡ true
          → AllByRecursion (λ z. is_below (key x) (key z) ≡ true) zs
      above [] all less = tt
      above (z ∷ zs) all less = (below_trans (key x) (key y) (key z) less all.0, above zs all.1 less)

  pub tail_ascends : (x : X) (xs : List X) → IsAscending (x ∷ xs) → IsAscending xs
  tail_ascends x [] up = refl
  tail_ascends x (y ∷ ys) up = second_of_both (is_below (key x) (key y)) (ascend (map key (y ∷ ys))) up

  -- those below a key come before the others
  pub partitioned : (k : List ℕ) (xs : List X) → IsAscending xs → IsPartitionedBy (λ x. is_below (key x) k) xs
  partitioned k [] up i j d le within less = absurd (omega (arith, within))
  partitioned k (x ∷ xs) up zero zero d le within less = less
  partitioned k (x ∷ xs) up zero (suc j) d le within less =
      below_trans (key x) (key (slice_index_or xs j d)) k
      (all_at (λ y. is_below (key x) (key y) ≡ true) xs j d (all_above x xs up) (omega (arith, within))) less
  partitioned k (x ∷ xs) up (suc i) zero d le within less = absurd (omega (arith, le))
  partitioned k (x ∷ xs) up (suc i) (suc j) d le within less =
      partitioned k xs (tail_ascends x xs up) i j d (omega (arith, le)) (omega (arith, within)) less

  -- what stands on both sides of a place says whether it is a key's
  pub place_between : (k : List ℕ) (xs : List X) (n : ℕ) → IsAscending xs
      → ((d : X) → 0 < n → is_below (key (slice_index_or xs (n - 1) d)) k ≡ true)
      → ((d : X) → n < length xs → is_below (key (slice_index_or xs n d)) k ≡ false) → n ≤ length xs → IsPlace key k xs n
  place_between k xs n up lower no_lower within = (
    λ i d low high. partitioned k xs up i (n - 1) d (omega (arith, high)) (omega (arith, high, within))
        (lower d (omega (arith, high))),
    λ i d low high. by i d (is_below (key (slice_index_or xs i d)) k) refl low high,
  )
    where
      by : (i : ℕ) (d : X) (b : Bool) → is_below (key (slice_index_or xs i d)) k ≡ b → n ≤ i → i < length xs → b ≡ false
      by i d true e low high = absurd (not_both (sym (partitioned k xs up n i d low high e)
          ∙ no_lower d (omega (arith, low, high))))
      by i d false e low high = refl

  at_is : (xs : List X) (n : ℕ) (d x : X) → slice_get xs n ≡ Some x → slice_index_or xs n d ≡ x
  at_is [] n d x e = absurd (none-some x e)
  at_is (y ∷ ys) zero d x e = same_Some y x e
  at_is (y ∷ ys) (suc n) d x e = at_is ys n d x e

  pub at_within : (xs : List X) (n : ℕ) (x : X) → slice_get xs n ≡ Some x → n < length xs
  at_within [] n x e = absurd (none-some x e)
  at_within (y ∷ ys) zero x e = omega (arith)
  at_within (y ∷ ys) (suc n) x e = omega (arith, at_within ys n x e)

  below_later : (xs : List X) (n : ℕ) (d : X) → IsAscending xs → suc n < length xs
      → is_below (key (slice_index_or xs n d)) (key (slice_index_or xs (suc n) d)) ≡ true
  below_later [] n d up within = absurd (omega (arith, within))
  below_later (x ∷ xs) zero d up within =
      all_at (λ y. is_below (key x) (key y) ≡ true) xs 0 d (all_above x xs up) (omega (arith, within))
  below_later (x ∷ xs) (suc n) d up within = below_later xs n d (tail_ascends x xs up) (omega (arith, within))

  below_before : (k : List ℕ) (xs : List X) (n : ℕ) (x d : X) → IsAscending xs → slice_get xs n ≡ Some x
      → same_text (key x) k ≡ true → 0 < n → is_below (key (slice_index_or xs (n - 1) d)) k ≡ true
  below_before k xs zero x d up at e some = absurd (omega (arith, some))
  below_before k xs (suc m) x d up at e some =
      let same : suc m - 1 ≡ m = omega (arith) in
      rw same (subst (λ y. is_below (key (slice_index_or xs m d)) y ≡ true)
      (ap key (at_is xs (suc m) d x at) ∙ same_text_is (key x) k e) (below_later xs m d up (at_within xs (suc m) x at)))

  -- where the element of a key stands is the key's place
  pub place_of_same : (k : List ℕ) (xs : List X) (n : ℕ) (x : X) → IsAscending xs → slice_get xs n ≡ Some x
      → same_text (key x) k ≡ true → IsPlace key k xs n
  place_of_same k xs n x up at e =
      let within : n < length xs = at_within xs n x at in
      place_between k xs n up (λ d some. below_before k xs n x d up at e some)
      (λ d some. subst (λ y. is_below y k ≡ false) (sym (ap key (at_is xs n d x at) ∙ same_text_is (key x) k e))
      (not_below_itself k)) (omega (arith, within))

  pub place_behind : (k : List ℕ) (x : X) (xs : List X) (n : ℕ) → IsPlace key k (x ∷ xs) (suc n) → IsPlace key k xs n
  place_behind k x xs n p = (
    λ i d low high. p.0 (suc i) d (omega (arith)) (omega (arith, high)),
    λ i d low high. p.1 (suc i) d (omega (arith, low)) (omega (arith, high)),
  )

  -- behind one that isn't below a key there is none with that key
  pub none_behind : (k : List ℕ) (x : X) (xs : List X) → is_below (key x) k ≡ false
      → AllByRecursion (λ y. is_below (key x) (key y) ≡ true) xs → find (λ y. same_text (key y) k) xs ≡ None
  none_behind k x [] not_less all = refl
  none_behind k x (y ∷ ys) not_less all = by (same_text (key y) k) refl (none_behind k x ys not_less all.1)
    where
      by : (t : Bool) → same_text (key y) k ≡ t → find (λ z. same_text (key z) k) ys ≡ None
          → find (λ z. same_text (key z) k) (y ∷ ys) ≡ None
      by true e later = absurd (not_both (sym all.0 ∙ ap (is_below (key x)) (same_text_is (key y) k e) ∙ not_less))
      by false e later = rw e later

  -- behind one that isn't below a key there is none with it, so that dropping it drops none
  kept_behind : (k : List ℕ) (x : X) (xs : List X) → is_below (key x) k ≡ false
      → AllByRecursion (λ y. is_below (key x) (key y) ≡ true) xs → drop_key key k xs ≡ xs
  kept_behind k x [] not_less all = refl
  kept_behind k x (y ∷ ys) not_less all = by (same_text (key y) k) refl (kept_behind k x ys not_less all.1)
    where
      by : (t : Bool) → same_text (key y) k ≡ t → drop_key key k ys ≡ ys → drop_key key k (y ∷ ys) ≡ y ∷ ys
      by true e later = absurd (not_both (sym all.0 ∙ ap (is_below (key x)) (same_text_is (key y) k e) ∙ not_less))
      by false e later = rw e (ap (λ zs. y ∷ zs) later)

  -- a search for a key finds what stands at its place
  pub found_at : (k : List ℕ) (xs : List X) (n : ℕ) → IsAscending xs → IsPlace key k xs n
      → find (λ x. same_text (key x) k) xs ≡ if_same key k (slice_get xs n)
  found_at k [] n up p = refl
  found_at k (x ∷ xs) zero up p = by (same_text (key x) k) refl
    where
      by : (t : Bool) → same_text (key x) k ≡ t → find (λ y. same_text (key y) k) (x ∷ xs) ≡ if_same key k (Some x)
      by true e = rw e refl
      by false e = rw e (none_behind k x xs (p.1 0 x (omega (arith)) (omega (arith))) (all_above x xs up))
  found_at k (x ∷ xs) (suc n) up p =
      rw (below_differs (key x) k (p.0 0 x (omega (arith)) (omega (arith))))
      (found_at k xs n (tail_ascends x xs up) (place_behind k x xs n p))

  -- dropping a key takes the element at its place, if it has it
  pub dropped_at : (k : List ℕ) (xs : List X) (n : ℕ) (y : X) → IsAscending xs → IsPlace key k xs n
      → slice_get xs n ≡ Some y → same_text (key y) k ≡ true → drop_key key k xs ≡ remove xs n
  dropped_at k [] n y up p at e = cc
  dropped_at k (x ∷ xs) zero y up p at e =
      let is : same_text (key x) k ≡ true = subst (λ z. same_text (key z) k ≡ true) (sym (same_Some x y at)) e in
      rw is (kept_behind k x xs (p.1 0 x (omega (arith)) (omega (arith))) (all_above x xs up))
  dropped_at k (x ∷ xs) (suc n) y up p at e =
      rw (below_differs (key x) k (p.0 0 x (omega (arith)) (omega (arith))))
      (ap (λ zs. x ∷ zs) (dropped_at k xs n y (tail_ascends x xs up) (place_behind k x xs n p) at e))

  -- and else none
  pub dropped_none : (k : List ℕ) (xs : List X) (n : ℕ) → IsAscending xs → IsPlace key k xs n
      → if_same key k (slice_get xs n) ≡ None → drop_key key k xs ≡ xs
  dropped_none k [] n up p none = refl
  dropped_none k (x ∷ xs) zero up p none = by (same_text (key x) k) refl
    where
      by : (t : Bool) → same_text (key x) k ≡ t → drop_key key k (x ∷ xs) ≡ x ∷ xs
      by true e = absurd (none-some x (sym none ∙ ap (λ (t : Bool). if t then Some x else None) e))
      by false e = rw e (ap (λ zs. x ∷ zs) (kept_behind k x xs (p.1 0 x (omega (arith)) (omega (arith)))
          (all_above x xs up)))
  dropped_none k (x ∷ xs) (suc n) up p none =
      rw (below_differs (key x) k (p.0 0 x (omega (arith)) (omega (arith))))
      (ap (λ zs. x ∷ zs) (dropped_none k xs n (tail_ascends x xs up) (place_behind k x xs n p) none))

  -- a new key goes to its place
  pub put_at : (x : X) (xs : List X) (n : ℕ) → IsPlace key (key x) xs n → if_same key (key x) (slice_get xs n) ≡ None
      → n ≤ length xs → put_by_key key x xs ≡ insert xs n x
  put_at x [] n p none within = sym (ap (λ (zs : List X). zs ++ x ∷ []) (take_nil n)) ∙ ap
      (λ (zs : List X). take n [] ++ x ∷ zs) (sym (drop_nil n))
  put_at x (y ∷ ys) zero p none within = rw (same_or_above (key y) (key x) (p.1 0 y (omega (arith)) (omega (arith)))
      (by (same_text (key y) (key x)) refl)) refl
    where
      by : (t : Bool) → same_text (key y) (key x) ≡ t → t ≡ false
      by true e = absurd (none-some y (sym none ∙ ap (λ (t : Bool). if t then Some y else None) e))
      by false e = refl
  put_at x (y ∷ ys) (suc n) p none within =
      rw (not_above (key y) (key x) (p.0 0 y (omega (arith)) (omega (arith))))
      (ap (λ zs. y ∷ zs) (put_at x ys n (place_behind (key x) y ys n p) none (omega (arith, within))))

  -- an element takes the place of that of its key
  pub replaced_at : (x : X) (xs : List X) (n : ℕ) (y : X) → IsAscending xs → IsPlace key (key x) xs n
      → slice_get xs n ≡ Some y → same_text (key y) (key x) ≡ true → put_by_key key x (remove xs n) ≡ slice_set xs n x
  replaced_at x [] n y up p at e = cc
  replaced_at x (z ∷ []) zero y up p at e = refl
  replaced_at x (z ∷ w ∷ ws) zero y up p at e =
      let is : key z ≡ key x = ap key (same_Some z y at) ∙ same_text_is (key y) (key x) e in
      rw (subst (λ k. is_below k (key w) ≡ true) is
      (first_of_both (is_below (key z) (key w)) (ascend (map key (w ∷ ws))) up)) refl
  replaced_at x (z ∷ zs) (suc n) y up p at e =
      rw (not_above (key z) (key x) (p.0 0 z (omega (arith)) (omega (arith))))
      (ap (λ ws. z ∷ ws) (replaced_at x zs n y (tail_ascends z zs up) (place_behind (key x) z zs n p) at e))

  -- ---- order after edits

  pub before_all : (x : X) (xs : List X) → AllByRecursion (λ y. is_below (key x) (key y) ≡ true) xs → IsAscending xs
      → IsAscending (x ∷ xs)
  before_all x [] all up = refl
  before_all x (y ∷ ys) all up = rw all.0 up

  all_kept : (P : X → Type 0) (k : List ℕ) (xs : List X) → AllByRecursion P xs → AllByRecursion P (drop_key key k xs)
  all_kept P k [] all = tt
  all_kept P k (x ∷ xs) all = by (same_text (key x) k) refl (all_kept P k xs all.1)
    where
      by : (t : Bool) → same_text (key x) k ≡ t → AllByRecursion P (drop_key key k xs)
          → AllByRecursion P (drop_key key k (x ∷ xs))
      by true e later = rw e later
      by false e later = rw e (all.0, later)

  pub still_ascends : (k : List ℕ) (xs : List X) → IsAscending xs → IsAscending (drop_key key k xs)
  still_ascends k [] up = refl
  still_ascends k (x ∷ xs) up = by (same_text (key x) k) refl (still_ascends k xs (tail_ascends x xs up))
      (all_kept (λ y. is_below (key x) (key y) ≡ true) k xs (all_above x xs up))
    where
      by : (t : Bool) → same_text (key x) k ≡ t → IsAscending (drop_key key k xs)
          → AllByRecursion (λ y. is_below (key x) (key y) ≡ true) (drop_key key k xs)
          → IsAscending (drop_key key k (x ∷ xs))
      by true e later all = rw e later
      by false e later all = rw e (before_all x (drop_key key k xs) all later)

  pub all_put : (P : X → Type 0) (x : X) (xs : List X) → P x → AllByRecursion P xs
      → AllByRecursion P (put_by_key key x xs)
  all_put P x [] one all = (one, tt)
  all_put P x (y ∷ ys) one all = by (is_below (key x) (key y)) refl (all_put P x ys one all.1)
    where
      by : (t : Bool) → is_below (key x) (key y) ≡ t → AllByRecursion P (put_by_key key x ys)
          → AllByRecursion P (put_by_key key x (y ∷ ys))
      by true e later = rw e (one, all)
      by false e later = rw e (all.0, later)

  pub all_but : (P : X → Type 0) (k : List ℕ) (xs : List X) → AllByRecursion P xs → AllByRecursion P (drop_key key k xs)
  all_but P k xs all = all_kept P k xs all

  pub differ : (k : List ℕ) (xs : List X) → AllByRecursion (λ y. same_text (key y) k ≡ false) (drop_key key k xs)
  differ k [] = tt
  differ k (x ∷ xs) = by (same_text (key x) k) refl (differ k xs)
    where
      by : (t : Bool) → same_text (key x) k ≡ t → AllByRecursion (λ y. same_text (key y) k ≡ false) (drop_key key k xs)
          → AllByRecursion (λ y. same_text (key y) k ≡ false) (drop_key key k (x ∷ xs))
      by true e later = rw e later
      by false e later = rw e (e, later)

  pub put_ascends : (x : X) (xs : List X) → IsAscending xs → AllByRecursion (λ y. same_text (key y) (key x) ≡ false) xs
      → IsAscending (put_by_key key x xs)
  put_ascends x [] up others = refl
  put_ascends x (y ∷ ys) up others = by (is_below (key x) (key y)) refl
      (put_ascends x ys (tail_ascends y ys up) others.1)
    where
      by : (t : Bool) → is_below (key x) (key y) ≡ t → IsAscending (put_by_key key x ys)
          → IsAscending (put_by_key key x (y ∷ ys))
      by true e later = rw e (rw e up)
      by false e later = rw e (before_all y (put_by_key key x ys)
          (all_put (λ z. is_below (key y) (key z) ≡ true) x ys
          (same_or_above (key x) (key y) e (differs_back (key y) (key x) others.0)) (all_above y ys up)) later)

  pub with_one_ascends : (x : X) (xs : List X) → IsAscending xs
      → IsAscending (put_by_key key x (drop_key key (key x) xs))
  with_one_ascends x xs up = put_ascends x (drop_key key (key x) xs) (still_ascends (key x) xs up) (differ (key x) xs)

-- ---- what stands at a place

pub stands_there : {X : Type 0} (xs : List X) (n : ℕ) (d : X) → n < length xs
    → slice_get xs n ≡ Some (slice_index_or xs n d)
stands_there [] n d within = absurd (omega (arith, within))
stands_there (x ∷ xs) zero d within = refl
stands_there (x ∷ xs) (suc n) d within = stands_there xs n d (omega (arith, within))

pub lacks_there : {X : Type 0} (key : X → List ℕ) (k : List ℕ) (xs : List X) (n : ℕ) (x : X) → slice_get xs n ≡ Some x
    → same_text (key x) k ≡ false → if_same key k (slice_get xs n) ≡ None
lacks_there key k xs n x at e = rw at (rw e refl)

-- what a search finds at a place
pub found_there : {X : Type 0} (key : X → List ℕ) (k : List ℕ) (xs : List X) (n : ℕ) (x : X) → IsPlace key k xs n
    → ascend (map key xs) ≡ true → slice_get xs n ≡ Some x → same_text (key x) k ≡ true
    → find (λ y. same_text (key y) k) xs ≡ Some x
found_there key k xs n x place up at e = found_at key k xs n up place ∙ (rw at (rw e refl))

-- a place by keys of the same length
pub same_place : (xs : List (List ℕ)) (m n : ℕ) (k : List ℕ) (at : ℕ) → m ≡ n
    → (ascend (map (take m) xs) ≡ true → IsPlace (take m) k xs at) → ascend (map (take n) xs) ≡ true
    → IsPlace (take n) k xs at
same_place xs m n k at same h = subst (λ count. ascend (map (take count) xs) ≡ true → IsPlace (take count) k xs at) same
    h

-- ---- a search for a greater key

first_above : {X : Type 0} (key : X → List ℕ) (k : List ℕ) (ys : List X)
    → AllByRecursion (λ z. is_below k (key z) ≡ true) ys → slice_get ys 0 ≡ find (λ z. is_below k (key z)) ys
first_above key k [] all = refl
first_above key k (z ∷ zs) all = rw all.0 refl

-- behind the segment of a key
pub above_at : {X : Type 0} (key : X → List ℕ) (k : List ℕ) (xs : List X) (n : ℕ) (x : X) → ascend (map key xs) ≡ true
    → IsPlace key k xs n → slice_get xs n ≡ Some x → same_text (key x) k ≡ true
    → slice_get xs (suc n) ≡ find (λ y. is_below k (key y)) xs
above_at key k [] n x up p at e = cc
above_at key k (y ∷ ys) zero x up p at e =
    let is : key y ≡ k = ap key (same_Some y x at) ∙ same_text_is (key x) k e in
    rw (subst (λ l. is_below k l ≡ false) (sym is) (not_below_itself k))
    (first_above key k ys (subst (λ l. AllByRecursion (λ z. is_below l (key z) ≡ true) ys) is (all_above key y ys up)))
above_at key k (y ∷ ys) (suc n) x up p at e =
    rw (not_above (key y) k (p.0 0 y (omega (arith)) (omega (arith))))
    (above_at key k ys n x (tail_ascends key y ys up) (place_behind key k y ys n p) at e)

-- at the place of a key that there isn't
pub above_none : {X : Type 0} (key : X → List ℕ) (k : List ℕ) (xs : List X) (n : ℕ) → ascend (map key xs) ≡ true
    → IsPlace key k xs n → if_same key k (slice_get xs n) ≡ None → slice_get xs n ≡ find (λ y. is_below k (key y)) xs
above_none key k [] n up p none = refl
above_none key k (y ∷ ys) zero up p none = rw (same_or_above (key y) k (p.1 0 y (omega (arith)) (omega (arith)))
    (by (same_text (key y) k) refl)) refl
  where
    by : (t : Bool) → same_text (key y) k ≡ t → t ≡ false
    by true e = absurd (none-some y (sym none ∙ ap (λ (t : Bool). if t then Some y else None) e))
    by false e = refl
above_none key k (y ∷ ys) (suc n) up p none =
    rw (not_above (key y) k (p.0 0 y (omega (arith)) (omega (arith))))
    (above_none key k ys n (tail_ascends key y ys up) (place_behind key k y ys n p) none)

-- ---- edits at a place

-- of the segment that stands there
pub put_over : {X : Type 0} (key : X → List ℕ) (x : X) (xs : List X) (n : ℕ) (y : X) → ascend (map key xs) ≡ true
    → IsPlace key (key x) xs n → slice_get xs n ≡ Some y → same_text (key y) (key x) ≡ true
    → slice_set xs n x ≡ put_by_key key x (drop_key key (key x) xs)
put_over key x xs n y up p at e =
    sym (ap (put_by_key key x) (dropped_at key (key x) xs n y up p at e) ∙ replaced_at key x xs n y up p at e)

-- where there is none
pub put_in : {X : Type 0} (key : X → List ℕ) (x : X) (xs : List X) (n : ℕ) → ascend (map key xs) ≡ true
    → IsPlace key (key x) xs n → if_same key (key x) (slice_get xs n) ≡ None → n ≤ length xs
    → insert xs n x ≡ put_by_key key x (drop_key key (key x) xs)
put_in key x xs n up p none within = sym (ap (put_by_key key x) (dropped_none key (key x) xs n up p none) ∙ put_at key x
    xs n p none within)

-- ---- places, as the code tells them

-- what stands at a place has another key
pub differs_there : {X : Type 0} (key : X → List ℕ) (k : List ℕ) (xs : List X) (n : ℕ) (x : X) → slice_get xs n ≡ Some x
    → same_text (key x) k ≡ false → (y : X) → slice_get xs n ≡ Some y → same_text (key y) k ≡ false
differs_there key k xs n x at e y also = subst (λ z. same_text (key z) k ≡ false) (same_Some x y (sym at ∙ also)) e

pub past_none : {X : Type 0} (key : X → List ℕ) (k : List ℕ) (xs : List X) (n : ℕ) → length xs ≤ n → (y : X)
    → slice_get xs n ≡ Some y → same_text (key y) k ≡ false
past_none key k [] n past y at = absurd (none-some y at)
past_none key k (x ∷ xs) zero past y at = absurd (omega (arith, past))
past_none key k (x ∷ xs) (suc n) past y at = past_none key k xs n (omega (arith, past)) y at

pub no_same : {X : Type 0} (key : X → List ℕ) (k : List ℕ) (o : Option X)
    → ((y : X) → o ≡ Some y → same_text (key y) k ≡ false) → if_same key k o ≡ None
no_same key k None h = refl
no_same key k (Some x) h = rw (h x refl) refl

module _ {X : Type 0} (key : X → List ℕ) where
  -- a change of a key is one at its place
  kept_changes : (k : List ℕ) (change : X → X) (x : X) (xs : List X) → is_below (key x) k ≡ false
      → AllByRecursion (λ y. is_below (key x) (key y) ≡ true) xs → change_key key k change xs ≡ xs
  kept_changes k change x [] not_less all = refl
  kept_changes k change x (y ∷ ys) not_less all = by (same_text (key y) k) refl
      (kept_changes k change x ys not_less all.1)
    where
      by : (t : Bool) → same_text (key y) k ≡ t → change_key key k change ys ≡ ys
          → change_key key k change (y ∷ ys) ≡ y ∷ ys
      by true e later = absurd (not_both (sym all.0 ∙ ap (is_below (key x)) (same_text_is (key y) k e) ∙ not_less))
      by false e later = rw e (ap (λ zs. y ∷ zs) later)

  pub changed_at : (k : List ℕ) (change : X → X) (xs : List X) (n : ℕ) (y : X) → IsAscending key xs → IsPlace key k xs n
      → slice_get xs n ≡ Some y → same_text (key y) k ≡ true → slice_set xs n (change y) ≡ change_key key k change xs
  changed_at k change [] n y up p at e = cc
  changed_at k change (x ∷ xs) zero y up p at e =
      let is : same_text (key x) k ≡ true = subst (λ z. same_text (key z) k ≡ true) (sym (same_Some x y at)) e in
      rw is (ap (λ z. change z ∷ xs) (sym (same_Some x y at)) ∙ ap (λ zs. change x ∷ zs)
      (sym (kept_changes k change x xs (p.1 0 x (omega (arith)) (omega (arith))) (all_above key x xs up))))
  changed_at k change (x ∷ xs) (suc n) y up p at e =
      rw (below_differs (key x) k (p.0 0 x (omega (arith)) (omega (arith))))
      (ap (λ zs. x ∷ zs) (changed_at k change xs n y (tail_ascends key x xs up) (place_behind key k x xs n p) at e))

  pub changed_none : (k : List ℕ) (change : X → X) (xs : List X) (n : ℕ) → IsAscending key xs → IsPlace key k xs n
      → ((y : X) → slice_get xs n ≡ Some y → same_text (key y) k ≡ false) → xs ≡ change_key key k change xs
  changed_none k change [] n up p none = refl
  changed_none k change (x ∷ xs) zero up p none = rw (none x refl)
      (ap (λ zs. x ∷ zs) (sym (kept_changes k change x xs (p.1 0 x (omega (arith)) (omega (arith)))
      (all_above key x xs up))))
  changed_none k change (x ∷ xs) (suc n) up p none =
      rw (below_differs (key x) k (p.0 0 x (omega (arith)) (omega (arith))))
      (ap (λ zs. x ∷ zs) (changed_none k change xs n (tail_ascends key x xs up) (place_behind key k x xs n p) none))

  -- one with a key that stands goes behind it
  before_above : (x : X) (ys : List X) → AllByRecursion (λ z. is_below (key x) (key z) ≡ true) ys
      → put_by_key key x ys ≡ x ∷ ys
  before_above x [] all = refl
  before_above x (y ∷ ys) all = rw all.0 refl

  pub put_behind : (x : X) (xs : List X) (n : ℕ) (y : X) → IsAscending key xs → IsPlace key (key x) xs n
      → slice_get xs n ≡ Some y → same_text (key y) (key x) ≡ true → put_by_key key x xs ≡ insert xs (suc n) x
  put_behind x [] n y up p at e = cc
  put_behind x (z ∷ zs) zero y up p at e =
      let is : key z ≡ key x = ap key (same_Some z y at) ∙ same_text_is (key y) (key x) e in
      rw (subst (λ k. is_below k (key z) ≡ false) is (not_below_itself (key z)))
      (ap (λ ws. z ∷ ws) (before_above x zs (subst (λ k. AllByRecursion (λ w. is_below k (key w) ≡ true) zs) is
      (all_above key z zs up))))
  put_behind x (z ∷ zs) (suc n) y up p at e =
      rw (not_above (key z) (key x) (p.0 0 z (omega (arith)) (omega (arith))))
      (ap (λ ws. z ∷ ws) (put_behind x zs n y (tail_ascends key z zs up) (place_behind key (key x) z zs n p) at e))

-- the others differ from one more, whose key none of them has
pub still_differ : (key : List ℕ → List ℕ) (s : List ℕ) (segments rest : List (List ℕ))
    → AllByRecursion (λ k. same_text (key s) k ≡ false) (map key rest)
    → AllByRecursion (λ r. AllByRecursion (λ y. same_text (key y) (key r) ≡ false) segments) rest
    → AllByRecursion (λ r. AllByRecursion (λ y. same_text (key y) (key r) ≡ false) (put_by_key key s segments)) rest
still_differ key s segments [] head differ = tt
still_differ key s segments (r ∷ rest) head differ = (
  all_put key (λ y. same_text (key y) (key r) ≡ false) s segments head.0 differ.0,
  still_differ key s segments rest head.1 differ.1,
)
