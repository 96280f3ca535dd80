-- What the values of keys show at a place, and what a change of one key makes of that.
use Rattle.std.proofs.Common.{◌≡◌, ℕ, zero, suc, ◌+◌, ◌≤◌, List, [], ◌∷◌, map, length, take, drop, Option, Some, None, refl, sym, ◌∙◌, ap, subst, Bool, true, false, ◌&&◌, slice_get, slice_set, arith}
use Rattle.std.specs.Prelude.{find, fold, if◌then◌else◌, nat_le, IfSome, Result, Ok, Err, OnOk, OnErr}
use Rattle.std.specs.Option.{option_and_then}
use Rattle.std.specs.List.{AllByRecursion, insert, list_any}
use Rattle.std.proofs.lemmas.Bool.{lt-leb, le-leb}
use Rattle.fp_model.specs.State.{ascend, is_below, put_by_key, drop_key}
use Rattle.fp_model.specs.Texts.{same_text}
use Rattle.key_order.specs.Places.{IsPlace, if_same}
use Rattle.past_segments.specs.Times.{AreSlots, EndsBy, FitsSlot, Rises, segments_at, value_at}
use Rattle.past_segments.specs.inside.Times.{EndsBefore}
use Rattle.past_segments.specs.declared.slot.Slot.{Slot}
use Rattle.past_segments.specs.declared.slot.Version.{Version}
use Rattle.key_order.proofs.Ascending.{IsAscending, all_above, below_differs, differ, differs_back, dropped_none, place_behind, put_in as put_in_order, tail_ascends, with_one_ascends}
use Rattle.past_segments.proofs.Showing as showing
use Rattle.model_laws.proofs.Texts.{same_text_is}
use Rattle.std.proofs.lemmas.Option.{same_Some}
use Rattle.plain_laws.proofs.Places.{keys_set}
use Rattle.plain_laws.proofs.Alls.{all_set}

abbrev pub key : Slot → List ℕ
key slot = slot.key

-- ---- values of a key

abbrev pub with_value : ℕ → Option (List ℕ) → Version → Option (List ℕ)
with_value place so_far v = if nat_le v.from place then v.segment else so_far

some_has : (P : List ℕ → Type 0) (o : Option (List ℕ)) (s : List ℕ) → IfSome o P → o ≡ Some s → P s
some_has P None s has e = cc
some_has P (Some t) s has e = subst P (same_Some t s e) has

value_has : (place : ℕ) (P : List ℕ → Type 0) (so_far : Option (List ℕ)) (vs : List Version) → IfSome so_far P
    → AllByRecursion (λ (v : Version). IfSome v.segment P) vs → IfSome (fold (with_value place) so_far vs) P
value_has place P so_far [] has all = has
value_has place P so_far (v ∷ vs) has all =
    value_has place P (with_value place so_far v) vs (by (nat_le v.from place)) all.1
  where
    by : (t : Bool) → IfSome (if t then v.segment else so_far) P
    by true = all.0
    by false = has

pub shows_key : (count place : ℕ) (slot : Slot) → FitsSlot count slot → (s : List ℕ)
    → value_at place slot.versions ≡ Some s → take count s ≡ slot.key
shows_key count place slot fits s e =
    some_has (λ t. take count t ≡ slot.key) (value_at place slot.versions) s
    (value_has place (λ t. take count t ≡ slot.key) None slot.versions tt fits.has_key) e

abbrev pub Agree : ℕ → ℕ → List Slot → Type 0
Agree count place slots = showing.Agree key (take count) (λ (slot : Slot). value_at place slot.versions) slots

pub agree : (count place : ℕ) (slots : List Slot) → AllByRecursion (FitsSlot count) slots → Agree count place slots
agree count place [] all = tt
agree count place (slot ∷ slots) all = (shows_key count place slot all.0, agree count place slots all.1)

pub rise : (count : ℕ) (slots : List Slot) → AllByRecursion (FitsSlot count) slots
    → AllByRecursion (λ (slot : Slot). Rises slot.versions) slots
rise count [] all = tt
rise count (slot ∷ slots) all = (all.0.rises, rise count slots all.1)

-- behind the last value nothing changes
pub value_later : (p q : ℕ) (so_far : Option (List ℕ)) (vs : List Version) → p ≤ q → EndsBy p vs
    → fold (with_value q) so_far vs ≡ fold (with_value p) so_far vs
value_later p q so_far [] le all = refl
value_later p q so_far (v ∷ vs) le all =
    let one : nat_le v.from q ≡ true = le-leb v.from q (omega (arith, all.0, le)) in
    let other : nat_le v.from p ≡ true = le-leb v.from p all.0 in
    rw one (rw other (value_later p q v.segment vs le all.1))

-- ---- the element of a key

pub same_there : (xs : List Slot) (n : ℕ) (x : Slot) (k : List ℕ) → slice_get xs n ≡ Some x
    → same_text (key x) k ≡ true → if_same key k (slice_get xs n) ≡ Some x
same_there xs n x k at e = rw at (rw e refl)

module _ (count : ℕ) (slots : List Slot) (fits : AreSlots count slots) (k : List ℕ) (n : ℕ)
    (place : IsPlace key k slots n) where
  pub found : (p : ℕ) (x : Slot) (m : ℕ) → m ≡ count → slice_get slots n ≡ Some x → same_text (key x) k ≡ true
      → value_at p x.versions ≡ find (λ s. same_text (take m s) k) (segments_at p slots)
  found p x m is at e =
      subst (λ c. value_at p x.versions ≡ find (λ s. same_text (take c s) k) (segments_at p slots)) (sym is)
      (sym (showing.found_shown key (take count) (λ (slot : Slot). value_at p slot.versions) k slots n fits.in_order
      (agree count p slots fits.each) place
      ∙ ap (option_and_then (λ (slot : Slot). value_at p slot.versions)) (same_there slots n x k at e)))

  pub found_none : (p m : ℕ) → m ≡ count → if_same key k (slice_get slots n) ≡ None
      → None ≡ find (λ s. same_text (take m s) k) (segments_at p slots)
  found_none p m is none =
      subst (λ c. None ≡ find (λ s. same_text (take c s) k) (segments_at p slots)) (sym is)
      (sym (showing.found_shown key (take count) (λ (slot : Slot). value_at p slot.versions) k slots n fits.in_order
      (agree count p slots fits.each) place
      ∙ ap (option_and_then (λ (slot : Slot). value_at p slot.versions)) none))

  pub above : (p : ℕ) (x : Slot) (m : ℕ) → m ≡ count → slice_get slots n ≡ Some x → same_text (key x) k ≡ true
      → slice_get (segments_at p (drop (n + 1) slots)) 0 ≡ find (λ s. is_below k (take m s)) (segments_at p slots)
  above p x m is at e =
      let next : suc n ≡ n + 1 = omega (arith) in
      ap (λ j. slice_get (segments_at p (drop j slots)) 0) (sym next)
      ∙ subst (λ c. slice_get (segments_at p (drop (suc n) slots)) 0 ≡ find (λ s. is_below k (take c s))
      (segments_at p slots)) (sym is)
      (sym (showing.first_shown key (take count) (λ (slot : Slot). value_at p slot.versions) k slots n x fits.in_order
      (agree count p slots fits.each) place at e))

  pub above_none : (p m : ℕ) → m ≡ count → if_same key k (slice_get slots n) ≡ None
      → slice_get (segments_at p (drop n slots)) 0 ≡ find (λ s. is_below k (take m s)) (segments_at p slots)
  above_none p m is none =
      subst (λ c. slice_get (segments_at p (drop n slots)) 0 ≡ find (λ s. is_below k (take c s)) (segments_at p slots))
      (sym is)
      (sym (showing.first_shown_none key (take count) (λ (slot : Slot). value_at p slot.versions) k slots n fits.in_order
      (agree count p slots fits.each) place none))

  -- ---- edits

  pub over_put : (p : ℕ) (x y : Slot) (t : List ℕ) (m : ℕ) → m ≡ count → slice_get slots n ≡ Some x
      → same_text (key x) k ≡ true → take count t ≡ k → value_at p y.versions ≡ Some t
      → segments_at p (slice_set slots n y) ≡ put_by_key (take m) t (drop_key (take m) (take m t) (segments_at p slots))
  over_put p x y t m is at e has shows =
      subst (λ c. segments_at p (slice_set slots n y) ≡ put_by_key (take c) t (drop_key (take c) (take c t)
      (segments_at p slots))) (sym is)
      (subst (λ l. segments_at p (slice_set slots n y) ≡ put_by_key (take count) t (drop_key (take count) l
      (segments_at p slots))) (sym has)
      (showing.put_over key (take count) (λ (slot : Slot). value_at p slot.versions) k slots n x y t fits.in_order
      (agree count p slots fits.each) place at e shows has))

  pub in_put : (p : ℕ) (y : Slot) (t : List ℕ) (m : ℕ) → m ≡ count → if_same key k (slice_get slots n) ≡ None
      → take count t ≡ k → value_at p y.versions ≡ Some t
      → segments_at p (insert slots n y) ≡ put_by_key (take m) t (drop_key (take m) (take m t) (segments_at p slots))
  in_put p y t m is none has shows =
      subst (λ c. segments_at p (insert slots n y) ≡ put_by_key (take c) t (drop_key (take c) (take c t)
      (segments_at p slots))) (sym is)
      (subst (λ l. segments_at p (insert slots n y) ≡ put_by_key (take count) t (drop_key (take count) l
      (segments_at p slots))) (sym has)
      (showing.put_in key (take count) (λ (slot : Slot). value_at p slot.versions) k slots n y t fits.in_order
      (agree count p slots fits.each) place none shows has))

  pub over_drop : (p : ℕ) (x y : Slot) (m : ℕ) → m ≡ count → slice_get slots n ≡ Some x → same_text (key x) k ≡ true
      → value_at p y.versions ≡ None
      → segments_at p (slice_set slots n y) ≡ drop_key (take m) k (segments_at p slots)
  over_drop p x y m is at e shows =
      subst (λ c. segments_at p (slice_set slots n y) ≡ drop_key (take c) k (segments_at p slots)) (sym is)
      (showing.drop_over key (take count) (λ (slot : Slot). value_at p slot.versions) k slots n x y fits.in_order
      (agree count p slots fits.each) place at e shows)

  pub none_drop : (p m : ℕ) → m ≡ count → if_same key k (slice_get slots n) ≡ None
      → segments_at p slots ≡ drop_key (take m) k (segments_at p slots)
  none_drop p m is none =
      subst (λ c. segments_at p slots ≡ drop_key (take c) k (segments_at p slots)) (sym is)
      (showing.drop_none key (take count) (λ (slot : Slot). value_at p slot.versions) k slots n fits.in_order
      (agree count p slots fits.each) place none)

  -- with a new key
  pub inserted : (y : Slot) → if_same key k (slice_get slots n) ≡ None → n ≤ length slots → key y ≡ k
      → FitsSlot count y → AreSlots count (insert slots n y)
  inserted y none within is one = record {
    in_order =
        subst (λ ys. ascend (map key ys) ≡ true)
        (sym (put_in_order key y slots n fits.in_order (subst (λ l. IsPlace key l slots n) (sym is) place)
        (subst (λ l. if_same key l (slice_get slots n) ≡ None) (sym is) none) within))
        (with_one_ascends key y slots fits.in_order);
    each = showing.all_insert (FitsSlot count) slots n y fits.each one;
  }

-- with other values of a key
pub changed : (count : ℕ) (slots : List Slot) (n : ℕ) (x y : Slot) → AreSlots count slots → slice_get slots n ≡ Some x
    → key y ≡ key x → FitsSlot count y → AreSlots count (slice_set slots n y)
changed count slots n x y fits at is one = record {
  in_order = ap ascend (keys_set key slots n x y at is) ∙ fits.in_order;
  each = all_set (FitsSlot count) slots n y fits.each one;
}

pub shows_same : (p : ℕ) (slots : List Slot) (n : ℕ) (x y : Slot) → slice_get slots n ≡ Some x
    → value_at p y.versions ≡ value_at p x.versions → segments_at p (slice_set slots n y) ≡ segments_at p slots
shows_same p slots n x y at e = showing.set_same key (λ l. l) (λ (slot : Slot). value_at p slot.versions) slots n x y at e

pub shows_same_in : (p : ℕ) (slots : List Slot) (n : ℕ) (y : Slot) → value_at p y.versions ≡ None
    → segments_at p (insert slots n y) ≡ segments_at p slots
shows_same_in p slots n y e = showing.insert_none key (λ l. l) (λ (slot : Slot). value_at p slot.versions) slots n y e

-- ---- what came of a change

pub on_err : {A E : Type 0} {P Q : Type 0} (r : Result A E) → (P → Q) → OnErr r P → OnErr r Q
on_err (Ok done) f p = tt
on_err (Err e) f p = f p

-- of a list that has a change where it is done
pub either : {A E : Type 0} {X : Type 0} (P : X → Type 0) (r : Result A E) (new one other : X) → OnOk r (new ≡ one)
    → OnErr r (new ≡ other) → P one → P other → P new
either P (Ok done) new one other ok err p q = subst P (sym ok) p
either P (Err e) new one other ok err p q = subst P (sym err) q

-- ---- late values

abbrev pub late_in : ℕ → List Version → Bool
late_in place versions = list_any (λ (v : Version). nat_le place v.from) versions

abbrev pub is_late_slot : ℕ → List ℕ → Slot → Bool
is_late_slot place k slot = same_text slot.key k && late_in place slot.versions

-- another key
pub not_late : (place : ℕ) (k l : List ℕ) (slot : Slot) → slot.key ≡ k → same_text k l ≡ false
    → is_late_slot place l slot ≡ false
not_late place k l slot is e = rw (ap (λ m. same_text m l) is ∙ e) refl

pub late_set : (place : ℕ) (k l : List ℕ) (slots : List Slot) (n : ℕ) (x y : Slot) → slice_get slots n ≡ Some x
    → same_text (key x) k ≡ true → key y ≡ key x → same_text k l ≡ false
    → list_any (is_late_slot place l) (slice_set slots n y) ≡ list_any (is_late_slot place l) slots
late_set place k l slots n x y at e is other =
    let same : key x ≡ k = same_text_is (key x) k e in
    showing.any_set (is_late_slot place l) slots n x y at
    (not_late place k l y (is ∙ same) other ∙ sym (not_late place k l x same other))

pub late_insert : (place : ℕ) (k l : List ℕ) (slots : List Slot) (n : ℕ) (y : Slot) → key y ≡ k → same_text k l ≡ false
    → list_any (is_late_slot place l) (insert slots n y) ≡ list_any (is_late_slot place l) slots
late_insert place k l slots n y is other = showing.any_insert (is_late_slot place l) slots n y
    (not_late place k l y is other)

-- the same element has the same key
pub same_here : (xs : List Slot) (n : ℕ) (x y : Slot) (k : List ℕ) → slice_get xs n ≡ Some x → slice_get xs n ≡ Some y
    → same_text (key x) k ≡ true → same_text (key y) k ≡ true
same_here xs n x y k one other e = subst (λ z. same_text (key z) k ≡ true)
    (same_Some x y (sym one ∙ other)) e

-- ---- no late value of a key

differ_all : (place : ℕ) (k : List ℕ) (xs : List Slot) → AllByRecursion (λ (x : Slot). same_text (key x) k ≡ false) xs
    → list_any (is_late_slot place k) xs ≡ false
differ_all place k [] all = refl
differ_all place k (x ∷ xs) all = rw all.0 (differ_all place k xs all.1)

-- where there is no such key
pub never_late : (place : ℕ) (k : List ℕ) (xs : List Slot) (n : ℕ) → IsAscending key xs → IsPlace key k xs n
    → if_same key k (slice_get xs n) ≡ None → list_any (is_late_slot place k) xs ≡ false
never_late place k xs n up at none =
    differ_all place k xs (subst (AllByRecursion (λ (x : Slot). same_text (key x) k ≡ false))
    (dropped_none key k xs n up at none) (differ key k xs))

others_differ : (k : List ℕ) (x : Slot) (xs : List Slot) → same_text (key x) k ≡ true
    → AllByRecursion (λ (y : Slot). is_below (key x) (key y) ≡ true) xs
    → AllByRecursion (λ (y : Slot). same_text (key y) k ≡ false) xs
others_differ k x [] e all = tt
others_differ k x (y ∷ ys) e all = (
  differs_back k (key y) (below_differs k (key y) (subst (λ l. is_below l (key y) ≡ true) (same_text_is (key x) k e) all.0)),
  others_differ k x ys e all.1,
)

-- and where its values aren't
pub late_no_more : (place : ℕ) (k : List ℕ) (xs : List Slot) (n : ℕ) (x y : Slot) → IsAscending key xs
    → IsPlace key k xs n → slice_get xs n ≡ Some x → same_text (key x) k ≡ true → late_in place y.versions ≡ false
    → list_any (is_late_slot place k) (slice_set xs n y) ≡ false
late_no_more place k [] n x y up at is e early = refl
late_no_more place k (z ∷ zs) zero x y up at is e early =
    let same : same_text (key z) k ≡ true = ap (λ w. same_text (key w) k) (same_Some z x is) ∙ e in
    let later = differ_all place k zs (others_differ k z zs same (all_above key z zs up)) in
    by (same_text (key y) k) refl later
  where
    by : (t : Bool) → same_text (key y) k ≡ t → list_any (is_late_slot place k) zs ≡ false
        → list_any (is_late_slot place k) (y ∷ zs) ≡ false
    by true same later = rw same (rw early later)
    by false same later = rw same later
late_no_more place k (z ∷ zs) (suc n) x y up at is e early =
    rw (below_differs (key z) k (at.0 0 z (omega (arith)) (omega (arith))))
    (late_no_more place k zs n x y (tail_ascends key z zs up) (place_behind key k z zs n at) is e early)

pub early : (place : ℕ) (vs : List Version) → EndsBefore place vs → late_in place vs ≡ false
early place [] all = refl
early place (v ∷ vs) all = rw (lt-leb place v.from all.0) (early place vs all.1)
