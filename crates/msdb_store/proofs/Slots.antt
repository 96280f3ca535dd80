-- Slots and the order of their numbers: what an edit of the order makes of the segments.
use Rattle.std.proofs.Common.{◌≡◌, refl, sym, ◌∙◌, ap, subst, arith, ℕ, zero, suc, ◌<◌, ◌≤◌, ◌+◌, ◌-◌, List, [], ◌∷◌, ◌++◌, map, length, take, Bool, true, false, ◌==◌, None, Some, slice_get, slice_set, slice_index_or}
use Rattle.std.specs.Prelude.{if◌then◌else◌, Result, Ok, Err, IsOk, is_ok}
use Rattle.std.specs.List.{AllByRecursion, insert, remove}
use Rattle.std.proofs.lemmas.Bool.Decides.{nat_tests}
use Rattle.std.proofs.lemmas.List.{get_or-map, get_or-set_same, get_or-set_other, length-take, length_push}
use Rattle.std.proofs.lemmas.List.Edits.{length-insert, length-remove}
use Rattle.std.proofs.lemmas.List.Sums.{sum_by-cons, sum_by-insert, sum_by-remove, sum_by_push, sum_by-take-le, sum_by-take-drop, sum_by-drop_more, get_or-le-sum_by}
use Rattle.fp_model.specs.State.{ascend, is_below, numbers_up}
use Rattle.key_order.specs.Places.{IsPlace}
use Rattle.msdb_store.specs.Slots.{AreSlots, in_slots, slot_of, times}
use Rattle.std.proofs.lemmas.Option.{slice_get-map}
use Rattle.key_order.proofs.Ascending.{not_both, stands_there}
use Rattle.plain_laws.proofs.Alls.{all_pushed, all_weaker}
use Rattle.plain_laws.proofs.Lists.{map_length, map_twice}
use Rattle.plain_laws.proofs.Places.{map_insert}
use Rattle.model_laws.proofs.Numberings.{numbers_length}

-- ---- how often a number stands in a list

abbrev one_if : Bool → ℕ
one_if b = if b then 1 else 0

abbrev is : ℕ → ℕ → ℕ
is number n = one_if (n == number)

is_one : (b : Bool) → b ≡ true → one_if b ≡ 1
is_one b e = ap one_if e

itself : (n : ℕ) → is n n ≡ 1
itself n = is_one (n == n) (grind (arith, nat_tests))

other : (number n : ℕ) → (n ≡ number → ⊥) → is number n ≡ 0
other number n apart = ap one_if (by (n == number) refl)
  where
    by : (b : Bool) → (n == number) ≡ b → b ≡ false
    by true e = absurd (apart (grind (arith, nat_tests)))
    by false e = refl

apart_from : (number n : ℕ) → is number n ≡ 0 → n ≡ number → ⊥
apart_from number n none same = let one : is number n ≡ 1 = ap (is number) same ∙ itself number in
    omega (arith, none, one)

times_cons : (number n : ℕ) (ns : List ℕ) → times number (n ∷ ns) ≡ is number n + times number ns
times_cons number n ns = sum_by-cons (is number) n ns

-- what is below an end isn't that end
none_above : (end : ℕ) (ns : List ℕ) → AllByRecursion (λ n. n < end) ns → times end ns ≡ 0
none_above end [] all = refl
none_above end (n ∷ ns) all = omega (
  arith,
  times_cons end n ns,
  other end n (λ same. omega (arith, all.0, same)),
  none_above end ns all.1,
)

-- ---- a write into one slot

-- numbers of other slots see no change
elsewhere : (slots : List (List ℕ)) (h : ℕ) (s : List ℕ) (ns : List ℕ) → times h ns ≡ 0
    → in_slots (slice_set slots h s) ns ≡ in_slots slots ns
elsewhere slots h s [] none = refl
elsewhere slots h s (n ∷ ns) none =
    let more = times_cons h n ns in
    let first : is h n ≡ 0 = omega (arith, none, more) in
    let rest : times h ns ≡ 0 = omega (arith, none, more) in
    ap (λ x. x ∷ in_slots (slice_set slots h s) ns) (get_or-set_other slots h n s [] (apart_from h n first)) ∙ ap
    (λ xs. slot_of slots n ∷ xs) (elsewhere slots h s ns rest)

stands_times : (h : ℕ) (ns : List ℕ) (at : ℕ) → at < length ns → slice_index_or ns at h ≡ h → 1 ≤ times h ns
stands_times h ns at within e = omega (arith, get_or-le-sum_by (is h) ns at h within, ap (is h) e, itself h)

-- the segment at a place
pub set_at : (slots : List (List ℕ)) (h : ℕ) (s : List ℕ) (ns : List ℕ) (at : ℕ) → h < length slots → at < length ns
    → slice_index_or ns at h ≡ h → times h ns ≤ 1 → in_slots (slice_set slots h s) ns ≡ slice_set (in_slots slots ns) at
    s
set_at slots h s [] at there within e once = absurd (omega (arith, within))
set_at slots h s (n ∷ ns) zero there within e once =
    let more = times_cons h n ns in
    let rest : times h ns ≡ 0 = omega (arith, once, more, ap (is h) e, itself h) in
    ap (λ x. x ∷ in_slots (slice_set slots h s) ns)
    (ap (slot_of (slice_set slots h s)) e ∙ get_or-set_same slots h s [] there) ∙ ap (λ xs. s ∷ xs)
    (elsewhere slots h s ns rest)
set_at slots h s (n ∷ ns) (suc at) there within e once =
    let more = times_cons h n ns in
    let inner : at < length ns = omega (arith, within) in
    let first : is h n ≡ 0 = omega (arith, once, more, stands_times h ns at inner e) in
    ap (λ x. x ∷ in_slots (slice_set slots h s) ns) (get_or-set_other slots h n s [] (apart_from h n first)) ∙ ap
    (λ xs. slot_of slots n ∷ xs) (set_at slots h s ns at there inner e (omega (arith, once, more)))

-- ---- edits of a list and of what its elements give

map_remove : {A B : Type 0} (f : A → B) (xs : List A) (i : ℕ) → map f (remove xs i) ≡ remove (map f xs) i
map_remove f [] zero = refl
map_remove f [] (suc i) = refl
map_remove f (y ∷ ys) zero = refl
map_remove f (y ∷ ys) (suc i) = ap (λ zs. f y ∷ zs) (map_remove f ys i)

all_insert : {A : Type 0} (P : A → Type 0) (xs : List A) (i : ℕ) (x : A) → P x → AllByRecursion P xs
    → AllByRecursion P (insert xs i x)
all_insert P xs zero x one all = (one, all)
all_insert P [] (suc i) x one all = (one, tt)
all_insert P (y ∷ ys) (suc i) x one all = (all.0, all_insert P ys i x one all.1)

all_remove : {A : Type 0} (P : A → Type 0) (xs : List A) (i : ℕ) → AllByRecursion P xs → AllByRecursion P (remove xs i)
all_remove P [] zero all = tt
all_remove P [] (suc i) all = tt
all_remove P (y ∷ ys) zero all = all.1
all_remove P (y ∷ ys) (suc i) all = (all.0, all_remove P ys i all.1)

all_at : (P : ℕ → Type 0) (xs : List ℕ) (i d : ℕ) → i < length xs → AllByRecursion P xs → P (slice_index_or xs i d)
all_at P [] i d within all = absurd (omega (arith, within))
all_at P (x ∷ xs) zero d within all = all.0
all_at P (x ∷ xs) (suc i) d within all = all_at P xs i d (omega (arith, within)) all.1

take_whole : {A : Type 0} (n : ℕ) (xs : List A) (x : A) → n ≤ length xs → take n (xs ++ x ∷ []) ≡ take n xs
take_whole zero xs x within = refl
take_whole (suc n) [] x within = absurd (omega (arith, within))
take_whole (suc n) (y ∷ ys) x within = ap (λ zs. y ∷ zs) (take_whole n ys x (omega (arith, within)))

take_before : {A : Type 0} (n : ℕ) (xs : List A) → take n (remove xs n) ≡ take n xs
take_before zero xs = refl
take_before (suc n) [] = refl
take_before (suc n) (y ∷ ys) = ap (λ zs. y ∷ zs) (take_before n ys)

-- the first free number, put among those in use
taken_in : (order : List ℕ) (used at h : ℕ) → at ≤ used → used < length order
    → take (suc used) (insert (remove order used) at h) ≡ insert (take used order) at h
taken_in order used zero h low within = ap (λ ns. h ∷ ns) (take_before used order)
taken_in [] used (suc at) h low within = absurd (omega (arith, within))
taken_in (n ∷ ns) zero (suc at) h low within = absurd (omega (arith, low))
taken_in (n ∷ ns) (suc used) (suc at) h low within =
    ap (λ ms. n ∷ ms) (taken_in ns used at h (omega (arith, low)) (omega (arith, within)))

-- a number in use, put behind all
taken_out : (order : List ℕ) (used at h : ℕ) → at ≤ used → used < length order
    → take used (remove order at ++ h ∷ []) ≡ remove (take (suc used) order) at
taken_out [] used at h low within = absurd (omega (arith, within))
taken_out (n ∷ ns) used zero h low within = take_whole used ns h (omega (arith, within))
taken_out (n ∷ ns) zero (suc at) h low within = absurd (omega (arith, low))
taken_out (n ∷ ns) (suc used) (suc at) h low within =
    ap (λ ms. n ∷ ms) (taken_out ns used at h (omega (arith, low)) (omega (arith, within)))

-- ---- the edits

take_reads : (ns : List ℕ) (n i d : ℕ) → i < n → slice_index_or (take n ns) i d ≡ slice_index_or ns i d
take_reads ns zero i d lt = absurd (omega (arith, lt))
take_reads [] (suc n) i d lt = refl
take_reads (m ∷ ms) (suc n) zero d lt = refl
take_reads (m ∷ ms) (suc n) (suc i) d lt = take_reads ms n i d (omega (arith, lt))

-- there are as many segments as slots are used
pub used_length : (slots : List (List ℕ)) (order : List ℕ) (used : ℕ) → AreSlots (length slots) order used → length (in_slots slots (take used order)) ≡ used
used_length slots order used are = map_length (slot_of slots) (take used order) ∙ length-take used order ∙ omega
    (arith, are.within)

-- a number of the order names a slot
pub named_slot : (slots : ℕ) (order : List ℕ) (used at d : ℕ) → AreSlots slots order used → at < length order
    → slice_index_or order at d < slots
named_slot slots order used at d s within = omega (
  arith,
  all_at (λ n. n < length order) order at d within s.below,
  s.there,
)

-- the slot of a number that is in use
pub set_used : (slots : List (List ℕ)) (order : List ℕ) (used at h : ℕ) (s : List ℕ)
    → AreSlots (length slots) order used → at < used → slice_index_or order at h ≡ h
    → in_slots (slice_set slots h s) (take used order) ≡ slice_set (in_slots slots (take used order)) at s
set_used slots order used at h s are within e =
    let long : length (take used order) ≡ used = length-take used order ∙ omega (arith, are.within) in
    set_at slots h s (take used order) at (subst (λ n. n < length slots) e
    (named_slot (length slots) order used at h are (omega (arith, within, are.within))))
    (omega (arith, within, long))
    (take_reads order used at h within ∙ e) (omega (arith, sum_by-take-le (is h) order used, are.once h))

-- the first free number isn't in use
free_times : (slots : ℕ) (order : List ℕ) (used h : ℕ) → AreSlots slots order used → used < length order
    → slice_index_or order used h ≡ h → times h (take used order) ≡ 0
free_times slots order used h are within e =
    omega (
      arith,
      sum_by-take-drop (is h) order used,
      sum_by-drop_more (is h) order used h within,
      ap (is h) e,
      itself h,
      are.once h,
    )

pub put_free : (slots : List (List ℕ)) (order : List ℕ) (used at h : ℕ) (s : List ℕ)
    → AreSlots (length slots) order used → at ≤ used → used < length order → slice_index_or order used h ≡ h
    → in_slots (slice_set slots h s) (take (used + 1) (insert (remove order used) at h)) ≡ insert
    (in_slots slots (take used order)) at s
put_free slots order used at h s are low within e =
    let there : h < length slots = subst (λ n. n < length slots) e
    (named_slot (length slots) order used used h are within) in
    let next : used + 1 ≡ suc used = omega arith in
    ap (λ n. in_slots (slice_set slots h s) (take n (insert (remove order used) at h))) next
    ∙ ap (in_slots (slice_set slots h s)) (taken_in order used at h low within)
    ∙ map_insert (slot_of (slice_set slots h s)) (take used order) at h
    ∙ ap (λ x. insert (in_slots (slice_set slots h s) (take used order)) at x) (get_or-set_same slots h s [] there)
    ∙ ap (λ xs. insert xs at s) (elsewhere slots h s (take used order)
    (free_times (length slots) order used h are within e))

pub are_put : (slots : ℕ) (order : List ℕ) (used at h : ℕ) → AreSlots slots order used → at ≤ used → used < length order
    → slice_index_or order used h ≡ h → AreSlots slots (insert (remove order used) at h) (used + 1)
are_put slots order used at h are low within e =
    let shorter = length-remove order used within in
    let long : length (insert (remove order used) at h) ≡ length order =
    length-insert (remove order used) at h (omega (arith, shorter, low, within)) ∙ omega (arith, shorter) in
    let below : h < length order = subst (λ n. n < length order) e
    (all_at (λ n. n < length order) order used h within are.below) in
    record {
      once = λ n. omega (
        arith,
        sum_by-insert (is n) (remove order used) at h,
        sum_by-remove (is n) order used h within,
        ap (is n) e,
        are.once n,
      );
      below = subst (λ end. AllByRecursion (λ n. n < end) (insert (remove order used) at h)) (sym long)
          (all_insert (λ n. n < length order) (remove order used) at h below
          (all_remove (λ n. n < length order) order used are.below));
      there = omega (arith, long, are.there);
      within = omega (arith, long, within);
    }

pub take_out : (slots : List (List ℕ)) (order : List ℕ) (used at h : ℕ) (s : List ℕ)
    → AreSlots (length slots) order used → at < used → slice_index_or order at h ≡ h
    → in_slots (slice_set slots h s) (take (used - 1) (remove order at ++ h ∷ [])) ≡ remove
    (in_slots slots (take used order)) at
take_out slots order zero at h s are within e = absurd (omega (arith, within))
take_out slots order (suc used) at h s are within e =
    let one : suc used - 1 ≡ used = omega arith in
    let inside : used < length order = omega (arith, are.within) in
    let long : length (take (suc used) order) ≡ suc used = length-take (suc used) order ∙ omega (arith, are.within) in
    let reads : slice_index_or (take (suc used) order) at h ≡ h = take_reads order (suc used) at h within ∙ e in
    let gone : times h (remove (take (suc used) order) at) ≡ 0 =
    omega (
      arith,
      sum_by-remove (is h) (take (suc used) order) at h (omega (arith, within, long)),
      ap (is h) reads,
      itself h,
      sum_by-take-le (is h) order (suc used),
      are.once h,
    ) in
    ap (λ n. in_slots (slice_set slots h s) (take n (remove order at ++ h ∷ []))) one
    ∙ ap (in_slots (slice_set slots h s)) (taken_out order used at h (omega (arith, within)) inside)
    ∙ elsewhere slots h s (remove (take (suc used) order) at) gone
    ∙ map_remove (slot_of slots) (take (suc used) order) at

pub are_out : (slots : ℕ) (order : List ℕ) (used at h : ℕ) → AreSlots slots order used → at < used
    → slice_index_or order at h ≡ h → AreSlots slots (remove order at ++ h ∷ []) (used - 1)
are_out slots order used at h are within e =
    let inside : at < length order = omega (arith, within, are.within) in
    let shorter = length-remove order at inside in
    let long : length (remove order at ++ h ∷ []) ≡ length order =
    length_push (remove order at) h ∙ omega (arith, shorter) in
    let below : h < length order = subst (λ n. n < length order) e
    (all_at (λ n. n < length order) order at h inside are.below) in
    record {
      once = λ n. omega (
        arith,
        sum_by_push (is n) (remove order at) h,
        sum_by-remove (is n) order at h inside,
        ap (is n) e,
        are.once n,
      );
      below = subst (λ end. AllByRecursion (λ n. n < end) (remove order at ++ h ∷ [])) (sym long)
          (all_pushed (λ n. n < length order) (remove order at) h below
          (all_remove (λ n. n < length order) order at are.below));
      there = omega (arith, long, are.there);
      within = omega (arith, long, are.within);
    }

-- ---- one slot more

one_more_slot : (slots : List (List ℕ)) (n : ℕ) → slot_of (slots ++ [] ∷ []) n ≡ slot_of slots n
one_more_slot [] zero = refl
one_more_slot [] (suc n) = refl
one_more_slot (s ∷ slots) zero = refl
one_more_slot (s ∷ slots) (suc n) = one_more_slot slots n

pub slots_more : (slots : List (List ℕ)) (ns : List ℕ) → in_slots (slots ++ [] ∷ []) ns ≡ in_slots slots ns
slots_more slots [] = refl
slots_more slots (n ∷ ns) = ap (λ x. x ∷ in_slots (slots ++ [] ∷ []) ns) (one_more_slot slots n) ∙ ap
    (λ xs. slot_of slots n ∷ xs) (slots_more slots ns)

pub are_wider : (slots more : ℕ) (order : List ℕ) (used : ℕ) → AreSlots slots order used → slots ≤ more
    → AreSlots more order used
are_wider slots more order used are le = record {
  once = are.once;
  below = are.below;
  there =
      omega (arith, are.there, le);
  within = are.within;
}

pub are_more : (slots : ℕ) (order : List ℕ) (used : ℕ) → AreSlots slots order used → length order < slots
    → AreSlots slots (order ++ length order ∷ []) used
are_more slots order used are room =
    let long : length (order ++ length order ∷ []) ≡ length order + 1 = length_push order (length order) in
    record {
      once = λ n. omega (arith, sum_by_push (is n) order (length order), once n (is n (length order)) refl);
      below = subst (λ end. AllByRecursion (λ n. n < end) (order ++ length order ∷ [])) (sym long)
          (all_pushed (λ n. n < length order + 1) order (length order) (omega arith)
          (all_weaker (λ n. n < length order) (λ n. n < length order + 1) order (λ n lt. omega (arith, lt))
          are.below));
      there = omega (arith, long, room);
      within = omega (arith, long, are.within);
    }
  where
    once : (n m : ℕ) → is n (length order) ≡ m → times n order + m ≤ 1
    once n zero e = omega (arith, are.once n)
    once n (suc m) e = by ((length order) == n) refl e
      where
        by : (b : Bool) → (length order == n) ≡ b → one_if (length order == n) ≡ suc m → times n order + suc m ≤ 1
        by true same one =
            let at : length order ≡ n = grind (arith, nat_tests) in
            let none : times n order ≡ 0 = subst (λ k. times k order ≡ 0) at (none_above (length order) order are.below)
            in
            omega (arith, none, one, ap one_if same)
        by false same one = absurd (omega (arith, one, ap one_if same))

pub take_more_order : (order : List ℕ) (used n : ℕ) → used ≤ length order
    → take used (order ++ n ∷ []) ≡ take used order
take_more_order order used n within = take_whole used order n within

-- ---- slots in the order of their numbers

up_below : (n from : ℕ) → AllByRecursion (λ m. m < from + n) (numbers_up n from)
up_below zero from = tt
up_below (suc n) from = (
  omega arith,
  all_weaker (λ m. m < from + 1 + n) (λ m. m < from + suc n)
      (numbers_up n (from + 1)) (λ m lt. omega (arith, lt)) (up_below n (from + 1)),
)

up_none : (number n from : ℕ) → number < from → times number (numbers_up n from) ≡ 0
up_none number zero from low = refl
up_none number (suc n) from low = omega (
  arith,
  times_cons number from (numbers_up n (from + 1)),
  other number from (λ same. omega (arith, low, same)),
  up_none number n (from + 1) (omega (arith, low)),
)

up_once : (number n from : ℕ) → times number (numbers_up n from) ≤ 1
up_once number zero from = omega arith
up_once number (suc n) from = by (from == number) refl (up_once number n (from + 1))
  where
    by : (b : Bool) → (from == number) ≡ b → times number (numbers_up n (from + 1)) ≤ 1
        → times number (from ∷ numbers_up n (from + 1)) ≤ 1
    by true e later =
        let same : from ≡ number = grind (arith, nat_tests) in
        omega (
          arith,
          times_cons number from (numbers_up n (from + 1)),
          ap one_if e,
          up_none number n (from + 1) (omega (arith, same)),
        )
    by false e later = omega (arith, times_cons number from (numbers_up n (from + 1)), ap one_if e, later)

pub are_up : (n : ℕ) → AreSlots n (numbers_up n 0) n
are_up n =
    let long = numbers_length n 0 in
    record {
      once = λ number. up_once number n 0;
      below = subst (λ end. AllByRecursion (λ m. m < end) (numbers_up n 0)) (sym long)
          (all_weaker (λ m. m < 0 + n) (λ m. m < n) (numbers_up n 0) (λ m lt. omega (arith, lt)) (up_below n 0));
      there = omega (arith, long);
      within = omega (arith, long);
    }

up_slots : (front xs : List (List ℕ)) (from : ℕ) → from ≡ length front
    → in_slots (front ++ xs) (numbers_up (length xs) from) ≡ xs
up_slots front [] from at = refl
up_slots front (x ∷ xs) from at =
    ap (λ y. y ∷ in_slots (front ++ x ∷ xs) (numbers_up (length xs) (from + 1))) (reads front from at)
    ∙ ap (λ ys. x ∷ ys) (ap (λ all. in_slots all (numbers_up (length xs) (from + 1))) (again front) ∙ up_slots
    (front ++ x ∷ []) xs (from + 1) (omega (arith, at, length_push front x)))
  where
    reads : (ys : List (List ℕ)) (n : ℕ) → n ≡ length ys → slot_of (ys ++ x ∷ xs) n ≡ x
    reads [] n e = ap (slot_of (x ∷ xs)) e
    reads (y ∷ ys) zero e = absurd (omega (arith, e))
    reads (y ∷ ys) (suc n) e = reads ys n (omega (arith, e))

    again : (ys : List (List ℕ)) → ys ++ x ∷ xs ≡ (ys ++ x ∷ []) ++ xs
    again [] = refl
    again (y ∷ ys) = ap (λ zs. y ∷ zs) (again ys)

take_everything : {A : Type 0} (n : ℕ) (xs : List A) → n ≡ length xs → take n xs ≡ xs
take_everything zero [] e = refl
take_everything zero (x ∷ xs) e = absurd (omega (arith, e))
take_everything (suc n) [] e = absurd (omega (arith, e))
take_everything (suc n) (x ∷ xs) e = ap (λ ys. x ∷ ys) (take_everything n xs (omega (arith, e)))

pub slots_up : (slots : List (List ℕ)) (n : ℕ) → n ≡ length slots → in_slots slots (take n (numbers_up n 0)) ≡ slots
slots_up slots n e =
    ap (in_slots slots) (take_everything n (numbers_up n 0) (sym (numbers_length n 0)))
    ∙ ap (λ m. in_slots slots (numbers_up m 0)) e
    ∙ up_slots [] slots 0 refl

pub up_push : (n : ℕ) → numbers_up (n + 1) 0 ≡ numbers_up n 0 ++ n ∷ []
up_push n = up_next n 0 ∙ ap (λ k. numbers_up n 0 ++ k ∷ []) (let e : 0 + n ≡ n = omega arith in e)
  where
    up_next : (m from : ℕ) → numbers_up (m + 1) from ≡ numbers_up m from ++ (from + m) ∷ []
    up_next zero from = ap (λ k. k ∷ []) (let e : from ≡ from + 0 = omega arith in e)
    up_next (suc m) from =
        let on : suc m + 1 ≡ suc (m + 1) = omega arith in
        let end : from + 1 + m ≡ from + suc m = omega arith in
        ap (λ k. numbers_up k from) on ∙ ap (λ ns. from ∷ ns)
        (up_next m (from + 1) ∙ ap (λ k. numbers_up m (from + 1) ++ k ∷ []) end)

-- ---- places

-- keys that ascend among segments ascend among the numbers of their slots
pub ascends_as : (slots : List (List ℕ)) (count : ℕ) (ns : List ℕ)
    → ascend (map (take count) (in_slots slots ns)) ≡ true → ascend (map (λ n. take count (slot_of slots n)) ns) ≡ true
ascends_as slots count ns up = ap ascend (sym (map_twice (slot_of slots) (take count) ns)) ∙ up

-- and a place among the numbers is one among the segments
pub place_as : (slots : List (List ℕ)) (count : ℕ) (key : List ℕ) (ns : List ℕ) (n : ℕ) → n ≤ length ns
    → IsPlace (λ m. take count (slot_of slots m)) key ns n → IsPlace (take count) key (in_slots slots ns) n
place_as slots count key ns n within p = (
  λ i d low high. ap (λ s. is_below (take count s) key)
      (get_or-map (slot_of slots) ns i 0 d (omega (arith, within, high))) ∙ p.0 i 0 low high,
  λ i d low high. let inside : i < length ns = omega (arith, high, map_length (slot_of slots) ns) in
      ap (λ s. is_below (take count s) key) (get_or-map (slot_of slots) ns i 0 d inside) ∙ p.1 i 0 low inside,
)

-- what is so of all is so of the one at a place
pub each_at : {X : Type 0} (P : X → Type 0) (xs : List X) (i : ℕ) (x : X) → slice_get xs i ≡ Some x
    → AllByRecursion P xs → P x
each_at P [] i x at all = absurd cc
each_at P (y ∷ ys) zero x at all = let same : y ≡ x = cc in subst P same all.0
each_at P (y ∷ ys) (suc i) x at all = each_at P ys i x at all.1

slot_at : (slots : List (List ℕ)) (h : ℕ) (s : List ℕ) → h < length slots → s ≡ slice_index_or slots h s
    → slot_of slots h ≡ s
slot_at [] h s lt is = absurd (omega (arith, lt))
slot_at (x ∷ xs) zero s lt is = sym is
slot_at (x ∷ xs) (suc h) s lt is = slot_at xs h s (omega (arith, lt)) is

-- the segment in the slot of the number at a place
pub stands_used : (slots : List (List ℕ)) (order : List ℕ) (used at h : ℕ) (s : List ℕ)
    → AreSlots (length slots) order used → at < used → slice_index_or order at h ≡ h → s ≡ slice_index_or slots h s
    → slice_get (in_slots slots (take used order)) at ≡ Some s
stands_used slots order used at h s are within e is =
    let long : length (take used order) ≡ used = length-take used order ∙ omega (arith, are.within) in
    let low : h < length slots = subst (λ n. n < length slots) e
    (named_slot (length slots) order used at h are (omega (arith, within, are.within))) in
    slice_get-map (slot_of slots) (take used order) at
    ∙ found (stands_there (take used order) at h (omega (arith, within, long)) ∙ ap Some
    (take_reads order used at h within ∙ e))
    ∙ ap Some (slot_at slots h s low is)
  where
    found : slice_get (take used order) at ≡ Some h → (elim (slice_get (take used order) at)
        [ None ↦ None | Some x ↦ Some (slot_of slots x) ]) ≡ Some (slot_of slots h)
    found e = rw e refl
