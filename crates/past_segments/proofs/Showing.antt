-- What elements in ascending order show, each a segment of its own key or nothing: searches and edits of what is shown.
use Rattle.std.proofs.Common.{◌≡◌, ℕ, zero, suc, List, [], ◌∷◌, drop, Option, Some, None, refl, sym, ◌∙◌, ap, subst, Bool, true, false, slice_get, slice_set, arith}
use Rattle.std.specs.Prelude.{find, if◌then◌else◌}
use Rattle.std.specs.Option.{option_and_then}
use Rattle.std.specs.List.{AllByRecursion, cons_option, filter_map, insert, list_any}
use Rattle.fp_model.specs.State.{is_below, put_by_key, drop_key}
use Rattle.fp_model.specs.Texts.{same_text}
use Rattle.key_order.specs.Places.{IsPlace, if_same}
use Rattle.key_order.proofs.Ascending.{IsAscending, all_above, below_differs, below_trans, differs_back, not_above, not_below_itself, place_behind, same_or_above, tail_ascends}
use Rattle.std.proofs.lemmas.Option.{none-some, same_Some}
use Rattle.model_laws.proofs.Texts.{same_text_is}

-- ---- segments that all are above a key

module _ (skey : List ℕ → List ℕ) (k : List ℕ) where
  abbrev AreAbove : List (List ℕ) → Type 0
  AreAbove ss = AllByRecursion (λ s. is_below k (skey s) ≡ true) ss

  above_differs : (s : List ℕ) → is_below k (skey s) ≡ true → same_text (skey s) k ≡ false
  above_differs s above = differs_back k (skey s) (below_differs k (skey s) above)

  none_found : (ss : List (List ℕ)) → AreAbove ss → find (λ s. same_text (skey s) k) ss ≡ None
  none_found [] all = refl
  none_found (s ∷ ss) all = rw (above_differs s all.0) (none_found ss all.1)

  all_kept : (ss : List (List ℕ)) → AreAbove ss → drop_key skey k ss ≡ ss
  all_kept [] all = refl
  all_kept (s ∷ ss) all = rw (above_differs s all.0) (ap (λ ts. s ∷ ts) (all_kept ss all.1))

  first_found : (ss : List (List ℕ)) → AreAbove ss → find (λ s. is_below k (skey s)) ss ≡ slice_get ss 0
  first_found [] all = refl
  first_found (s ∷ ss) all = rw all.0 refl

  comes_first : (s : List ℕ) (ss : List (List ℕ)) → skey s ≡ k → AreAbove ss
      → put_by_key skey s (drop_key skey k ss) ≡ s ∷ ss
  comes_first s ss is all = ap (put_by_key skey s) (all_kept ss all) ∙ by ss all
    where
      by : (ts : List (List ℕ)) → AreAbove ts → put_by_key skey s ts ≡ s ∷ ts
      by [] all = refl
      by (t ∷ ts) all = rw (subst (λ l. is_below l (skey t) ≡ true) (sym is) all.0) refl

-- ---- what elements show

module _ {X : Type 0} (key : X → List ℕ) (skey : List ℕ → List ℕ) (f : X → Option (List ℕ)) where
  -- an element shows a segment of its key
  abbrev pub Shows : X → Type 0
  Shows x = (s : List ℕ) → f x ≡ Some s → skey s ≡ key x

  abbrev pub Agree : List X → Type 0
  Agree xs = AllByRecursion Shows xs

  shown_all : (P : List ℕ → Type 0) (xs : List X) → Agree xs → AllByRecursion (λ x. P (key x)) xs
      → AllByRecursion (λ s. P (skey s)) (filter_map f xs)
  shown_all P [] agree all = tt
  shown_all P (x ∷ xs) agree all = by (f x) refl (shown_all P xs agree.1 all.1)
    where
      by : (o : Option (List ℕ)) → f x ≡ o → AllByRecursion (λ s. P (skey s)) (filter_map f xs)
          → AllByRecursion (λ s. P (skey s)) (filter_map f (x ∷ xs))
      by None e later = rw e later
      by (Some s) e later = rw e (subst P (sym (agree.0 s e)) all.0, later)

  -- what is behind an element that isn't below a key is above it
  above_from : (k : List ℕ) (x : X) (xs : List X) → is_below (key x) k ≡ false
      → AllByRecursion (λ y. is_below (key x) (key y) ≡ true) xs → AllByRecursion (λ y. is_below k (key y) ≡ true) xs
  above_from k x [] not_less all = tt
  above_from k x (y ∷ ys) not_less all = (by (same_text (key x) k) refl, above_from k x ys not_less all.1)
    where
      by : (t : Bool) → same_text (key x) k ≡ t → is_below k (key y) ≡ true
      by true e = subst (λ l. is_below l (key y) ≡ true) (same_text_is (key x) k e) all.0
      by false e = below_trans k (key x) (key y) (same_or_above (key x) k not_less e) all.0

  above_behind : (k : List ℕ) (x : X) (xs : List X) → is_below (key x) k ≡ false → IsAscending key (x ∷ xs) → Agree xs
      → AreAbove skey k (filter_map f xs)
  above_behind k x xs not_less up agree = shown_all (λ l. is_below k l ≡ true) xs agree
      (above_from k x xs not_less (all_above key x xs up))

  -- ---- what is in front of a place doesn't matter

  -- a search for a key passes an element below it
  passed : (k : List ℕ) (x : X) (rest : List (List ℕ)) (o : Option (List ℕ)) → Shows x → f x ≡ o
      → is_below (key x) k ≡ true
      → find (λ s. same_text (skey s) k) (cons_option o rest) ≡ find (λ s. same_text (skey s) k) rest
  passed k x rest None shows e less = refl
  passed k x rest (Some s) shows e less =
      rw (ap (λ l. same_text l k) (shows s e) ∙ below_differs (key x) k less) refl

  passed_above : (k : List ℕ) (x : X) (rest : List (List ℕ)) (o : Option (List ℕ)) → Shows x → f x ≡ o
      → is_below k (key x) ≡ false
      → find (λ s. is_below k (skey s)) (cons_option o rest) ≡ find (λ s. is_below k (skey s)) rest
  passed_above k x rest None shows e less = refl
  passed_above k x rest (Some s) shows e less = rw (ap (is_below k) (shows s e) ∙ less) refl

  kept : (k : List ℕ) (x : X) (rest : List (List ℕ)) (o : Option (List ℕ)) → Shows x → f x ≡ o
      → is_below (key x) k ≡ true → drop_key skey k (cons_option o rest) ≡ cons_option o (drop_key skey k rest)
  kept k x rest None shows e less = refl
  kept k x rest (Some s) shows e less = rw (ap (λ l. same_text l k) (shows s e) ∙ below_differs (key x) k less) refl

  put_behind : (t : List ℕ) (x : X) (rest : List (List ℕ)) (o : Option (List ℕ)) → Shows x → f x ≡ o
      → is_below (key x) (skey t) ≡ true → put_by_key skey t (cons_option o rest) ≡ cons_option o (put_by_key skey t rest)
  put_behind t x rest None shows e less = refl
  put_behind t x rest (Some s) shows e less =
      rw (ap (is_below (skey t)) (shows s e) ∙ not_above (key x) (skey t) less) refl

  below_first : (k : List ℕ) (x : X) (xs : List X) (n : ℕ) → IsPlace key k (x ∷ xs) (suc n) → is_below (key x) k ≡ true
  below_first k x xs n p = p.0 0 x (omega (arith)) (omega (arith))

  not_below_first : (k : List ℕ) (x : X) (xs : List X) → IsPlace key k (x ∷ xs) zero → is_below (key x) k ≡ false
  not_below_first k x xs p = p.1 0 x (omega (arith)) (omega (arith))

  -- from the place of a key that there isn't all are above it
  above_place : (k : List ℕ) (y : X) (ys : List X) → IsAscending key (y ∷ ys) → Agree (y ∷ ys)
      → IsPlace key k (y ∷ ys) zero → if_same key k (Some y) ≡ None → AreAbove skey k (filter_map f (y ∷ ys))
  above_place k y ys up agree p none =
      shown_all (λ l. is_below k l ≡ true) (y ∷ ys) agree
      (above, above_from k y ys (not_below_first k y ys p) (all_above key y ys up))
    where
      differs : (t : Bool) → same_text (key y) k ≡ t → t ≡ false
      differs true e = absurd (none-some y (sym none ∙ ap (λ (t : Bool). if t then Some y else None) e))
      differs false e = refl

      above : is_below k (key y) ≡ true
      above = same_or_above (key y) k (not_below_first k y ys p) (differs (same_text (key y) k) refl)

  -- ---- searches

  -- the element of the key shows what a search for the key finds
  pub found_shown : (k : List ℕ) (xs : List X) (n : ℕ) → IsAscending key xs → Agree xs → IsPlace key k xs n
      → find (λ s. same_text (skey s) k) (filter_map f xs) ≡ option_and_then f (if_same key k (slice_get xs n))
  found_shown k [] n up agree p = refl
  found_shown k (x ∷ xs) zero up agree p = by (same_text (key x) k) refl (f x) refl
    where
      none : find (λ s. same_text (skey s) k) (filter_map f xs) ≡ None
      none = none_found skey k (filter_map f xs) (above_behind k x xs (not_below_first k x xs p) up agree.1)

      by : (t : Bool) → same_text (key x) k ≡ t → (o : Option (List ℕ)) → f x ≡ o
          → find (λ s. same_text (skey s) k) (filter_map f (x ∷ xs)) ≡ option_and_then f (if_same key k (Some x))
      by true e None shows = rw e (rw shows none)
      by true e (Some s) shows = rw e (rw shows (rw (ap (λ l. same_text l k) (agree.0 s shows) ∙ e) refl))
      by false e None shows = rw e (rw shows none)
      by false e (Some s) shows = rw e (rw shows (rw (ap (λ l. same_text l k) (agree.0 s shows) ∙ e) none))
  found_shown k (x ∷ xs) (suc n) up agree p =
      passed k x (filter_map f xs) (f x) agree.0 refl (below_first k x xs n p)
      ∙ found_shown k xs n (tail_ascends key x xs up) agree.1 (place_behind key k x xs n p)

  -- the first that is shown behind those up to a key is the first above it
  pub first_shown : (k : List ℕ) (xs : List X) (n : ℕ) (x : X) → IsAscending key xs → Agree xs → IsPlace key k xs n
      → slice_get xs n ≡ Some x → same_text (key x) k ≡ true
      → find (λ s. is_below k (skey s)) (filter_map f xs) ≡ slice_get (filter_map f (drop (suc n) xs)) 0
  first_shown k [] n x up agree p at e = cc
  first_shown k (y ∷ ys) zero x up agree p at e =
      let is : key y ≡ k = ap key (same_Some y x at) ∙ same_text_is (key x) k e in
      passed_above k y (filter_map f ys) (f y) agree.0 refl (ap (is_below k) is ∙ not_below_itself k)
      ∙ first_found skey k (filter_map f ys) (above_behind k y ys (not_below_first k y ys p) up agree.1)
  first_shown k (y ∷ ys) (suc n) x up agree p at e =
      passed_above k y (filter_map f ys) (f y) agree.0 refl (not_above (key y) k (below_first k y ys n p))
      ∙ first_shown k ys n x (tail_ascends key y ys up) agree.1 (place_behind key k y ys n p) at e

  pub first_shown_none : (k : List ℕ) (xs : List X) (n : ℕ) → IsAscending key xs → Agree xs → IsPlace key k xs n
      → if_same key k (slice_get xs n) ≡ None
      → find (λ s. is_below k (skey s)) (filter_map f xs) ≡ slice_get (filter_map f (drop n xs)) 0
  first_shown_none k [] zero up agree p none = refl
  first_shown_none k [] (suc n) up agree p none = refl
  first_shown_none k (y ∷ ys) zero up agree p none =
      first_found skey k (filter_map f (y ∷ ys)) (above_place k y ys up agree p none)
  first_shown_none k (y ∷ ys) (suc n) up agree p none =
      passed_above k y (filter_map f ys) (f y) agree.0 refl (not_above (key y) k (below_first k y ys n p))
      ∙ first_shown_none k ys n (tail_ascends key y ys up) agree.1 (place_behind key k y ys n p) none

  -- ---- edits

  -- one that shows as much in the place of another
  pub set_same : (xs : List X) (n : ℕ) (y x : X) → slice_get xs n ≡ Some y → f x ≡ f y
      → filter_map f (slice_set xs n x) ≡ filter_map f xs
  set_same [] n y x at e = refl
  set_same (z ∷ zs) zero y x at e =
      ap (λ o. cons_option o (filter_map f zs)) (e ∙ ap f (sym (same_Some z y at)))
  set_same (z ∷ zs) (suc n) y x at e = ap (cons_option (f z)) (set_same zs n y x at e)

  -- one more that shows nothing
  pub insert_none : (xs : List X) (n : ℕ) (x : X) → f x ≡ None → filter_map f (insert xs n x) ≡ filter_map f xs
  insert_none [] zero x e = rw e refl
  insert_none [] (suc n) x e = rw e refl
  insert_none (z ∷ zs) zero x e = rw e refl
  insert_none (z ∷ zs) (suc n) x e = ap (cons_option (f z)) (insert_none zs n x e)

  -- what an element of a key shows goes with the key
  gone : (k : List ℕ) (x : X) (rest : List (List ℕ)) (o : Option (List ℕ)) → Shows x → f x ≡ o
      → same_text (key x) k ≡ true → drop_key skey k (cons_option o rest) ≡ drop_key skey k rest
  gone k x rest None shows e same = refl
  gone k x rest (Some s) shows e same = rw (ap (λ l. same_text l k) (shows s e) ∙ same) refl

  -- a put behind an element that is below the key
  put_later : (t : List ℕ) (k : List ℕ) (y : X) (rest : List (List ℕ)) → skey t ≡ k → Shows y
      → is_below (key y) k ≡ true
      → put_by_key skey t (drop_key skey k (cons_option (f y) rest))
      ≡ cons_option (f y) (put_by_key skey t (drop_key skey k rest))
  put_later t k y rest is shows less =
      ap (put_by_key skey t) (kept k y rest (f y) shows refl less)
      ∙ put_behind t y (drop_key skey k rest) (f y) shows refl (ap (is_below (key y)) is ∙ less)

  -- a new element shows a new segment
  pub put_in : (k : List ℕ) (xs : List X) (n : ℕ) (x : X) (t : List ℕ) → IsAscending key xs → Agree xs
      → IsPlace key k xs n → if_same key k (slice_get xs n) ≡ None → f x ≡ Some t → skey t ≡ k
      → filter_map f (insert xs n x) ≡ put_by_key skey t (drop_key skey k (filter_map f xs))
  put_in k [] zero x t up agree p none e is = rw e refl
  put_in k [] (suc n) x t up agree p none e is = rw e refl
  put_in k (y ∷ ys) zero x t up agree p none e is =
      rw e (sym (comes_first skey k t (filter_map f (y ∷ ys)) is (above_place k y ys up agree p none)))
  put_in k (y ∷ ys) (suc n) x t up agree p none e is =
      ap (cons_option (f y)) (put_in k ys n x t (tail_ascends key y ys up) agree.1 (place_behind key k y ys n p) none e is)
      ∙ sym (put_later t k y (filter_map f ys) is agree.0 (below_first k y ys n p))

  -- another element of the key shows another segment
  pub put_over : (k : List ℕ) (xs : List X) (n : ℕ) (y x : X) (t : List ℕ) → IsAscending key xs → Agree xs
      → IsPlace key k xs n → slice_get xs n ≡ Some y → same_text (key y) k ≡ true → f x ≡ Some t → skey t ≡ k
      → filter_map f (slice_set xs n x) ≡ put_by_key skey t (drop_key skey k (filter_map f xs))
  put_over k [] n y x t up agree p at same e is = cc
  put_over k (z ∷ zs) zero y x t up agree p at same e is =
      let here : same_text (key z) k ≡ true = ap (λ w. same_text (key w) k) (same_Some z y at) ∙ same in
      ap (λ o. cons_option o (filter_map f zs)) e
      ∙ sym (ap (put_by_key skey t) (gone k z (filter_map f zs) (f z) agree.0 refl here)
      ∙ comes_first skey k t (filter_map f zs) is (above_behind k z zs (not_below_first k z zs p) up agree.1))
  put_over k (z ∷ zs) (suc n) y x t up agree p at same e is =
      ap (cons_option (f z)) (put_over k zs n y x t (tail_ascends key z zs up) agree.1 (place_behind key k z zs n p) at
      same e is)
      ∙ sym (put_later t k z (filter_map f zs) is agree.0 (below_first k z zs n p))

  -- or nothing any more
  pub drop_over : (k : List ℕ) (xs : List X) (n : ℕ) (y x : X) → IsAscending key xs → Agree xs
      → IsPlace key k xs n → slice_get xs n ≡ Some y → same_text (key y) k ≡ true → f x ≡ None
      → filter_map f (slice_set xs n x) ≡ drop_key skey k (filter_map f xs)
  drop_over k [] n y x up agree p at same e = cc
  drop_over k (z ∷ zs) zero y x up agree p at same e =
      let here : same_text (key z) k ≡ true = ap (λ w. same_text (key w) k) (same_Some z y at) ∙ same in
      ap (λ o. cons_option o (filter_map f zs)) e
      ∙ sym (gone k z (filter_map f zs) (f z) agree.0 refl here
      ∙ all_kept skey k (filter_map f zs) (above_behind k z zs (not_below_first k z zs p) up agree.1))
  drop_over k (z ∷ zs) (suc n) y x up agree p at same e =
      ap (cons_option (f z)) (drop_over k zs n y x (tail_ascends key z zs up) agree.1 (place_behind key k z zs n p) at
      same e)
      ∙ sym (kept k z (filter_map f zs) (f z) agree.0 refl (below_first k z zs n p))

  -- a key that there isn't shows nothing
  pub drop_none : (k : List ℕ) (xs : List X) (n : ℕ) → IsAscending key xs → Agree xs → IsPlace key k xs n
      → if_same key k (slice_get xs n) ≡ None → filter_map f xs ≡ drop_key skey k (filter_map f xs)
  drop_none k [] n up agree p none = refl
  drop_none k (y ∷ ys) zero up agree p none =
      sym (all_kept skey k (filter_map f (y ∷ ys)) (above_place k y ys up agree p none))
  drop_none k (y ∷ ys) (suc n) up agree p none =
      ap (cons_option (f y)) (drop_none k ys n (tail_ascends key y ys up) agree.1 (place_behind key k y ys n p) none)
      ∙ sym (kept k y (filter_map f ys) (f y) agree.0 refl (below_first k y ys n p))

-- ---- all of them, any of them

pub all_insert : {X : Type 0} (P : X → Type 0) (xs : List X) (n : ℕ) (x : X) → AllByRecursion P xs → P x
    → AllByRecursion P (insert xs n x)
all_insert P [] zero x all one = (one, tt)
all_insert P [] (suc n) x all one = (one, tt)
all_insert P (y ∷ ys) zero x all one = (one, all)
all_insert P (y ∷ ys) (suc n) x all one = (all.0, all_insert P ys n x all.1 one)

pub all_there : {X : Type 0} (P : X → Type 0) (xs : List X) (n : ℕ) (x : X) → AllByRecursion P xs
    → slice_get xs n ≡ Some x → P x
all_there P [] n x all at = cc
all_there P (y ∷ ys) zero x all at = subst P (same_Some y x at) all.0
all_there P (y ∷ ys) (suc n) x all at = all_there P ys n x all.1 at

pub any_set : {X : Type 0} (t : X → Bool) (xs : List X) (n : ℕ) (y x : X) → slice_get xs n ≡ Some y → t x ≡ t y
    → list_any t (slice_set xs n x) ≡ list_any t xs
any_set t [] n y x at e = refl
any_set t (z ∷ zs) zero y x at e = rw (e ∙ ap t (sym (same_Some z y at))) refl
any_set t (z ∷ zs) (suc n) y x at e = rw (any_set t zs n y x at e) refl

pub any_insert : {X : Type 0} (t : X → Bool) (xs : List X) (n : ℕ) (x : X) → t x ≡ false
    → list_any t (insert xs n x) ≡ list_any t xs
any_insert t [] zero x e = rw e refl
any_insert t [] (suc n) x e = rw e refl
any_insert t (z ∷ zs) zero x e = rw e refl
any_insert t (z ∷ zs) (suc n) x e = rw (any_insert t zs n x e) refl
