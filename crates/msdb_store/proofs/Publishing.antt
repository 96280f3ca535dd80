-- Staged items put one after another.
use Rattle.std.proofs.Common.{◌≡◌, refl, sym, ◌∙◌, ap, subst, arith, ℕ, ◌<◌, ◌≤◌, ◌+◌, List, [], ◌∷◌, Bool, true, false, ◌&&◌, ◌||◌, ◌==◌, inl, inr, nat_lt}
use Rattle.std.specs.Prelude.{if◌then◌else◌, ◌⊎◌, count_by, is_none, Result, Ok, Err, IsOk, OnOk}
use Rattle.std.specs.List.{AllByRecursion}
use Rattle.std.proofs.lemmas.Bool.Decides.{nat_tests}
use Rattle.std.proofs.lemmas.List.Sums.{sum_by-cons}
use Rattle.fp_model.specs.Items.{with_item, with_items}
use Rattle.fp_model.specs.ItemTargets.{is_ascending, precedes}
use Rattle.fp_model.specs.State.{is_below}
use Rattle.fp_model.specs.Texts.{same_text}
use Rattle.fp_model.specs.declared.database.Msdb.{Msdb}
use Rattle.fp_model.specs.declared.definitions.MsdbDef.{MsdbDef}
use Rattle.fp_model.specs.declared.log.Item.{Item}
use Rattle.fp_model.specs.declared.log.Item.TheVariants.{Segment, Image, Range}
use Rattle.msdb_store.specs.Changes.{Changes}
use Rattle.msdb_store.specs.inside.Putting.{AreFew, CanPut, KeepsRoom}
use Rattle.msdb_store.specs.Settling.{IsSegmentItem, IsStaged, adds, has_bytes}
use Rattle.msdb_store.specs.Store.{IsFitSegment, IsOf, Stored, segment_in}
use Rattle.msdb_store.specs.Touches.{Touch}
use Rattle.msdb_store.specs.inside.Touches.{made}
use Rattle.key_order.proofs.Ascending.{below_differs, below_trans, not_both}
use Rattle.msdb_store.proofs.Stagings.{behind_item}
use Rattle.plain_laws.proofs.Truths.{first_of_both, second_of_both}
use Rattle.plain_laws.proofs.Numbers.{is_number, number_is}

-- ---- the order of items

abbrev pub Before : ℕ → List ℕ → ℕ → List ℕ → Type 0
Before n k m j = (n < m) ⊎ ((n ≡ m) × (is_below k j ≡ true))

pub split : (n : ℕ) (k : List ℕ) (m : ℕ) (j : List ℕ) → precedes (Segment n k []) (Segment m j []) ≡ true
    → Before n k m j
split n k m j e = by (nat_lt n m) refl
  where
    by : (b : Bool) → nat_lt n m ≡ b → Before n k m j
    by true lower = inl (grind (arith, nat_tests))
    by false lower =
        let rest : (n == m && is_below k j) ≡ true = ap (λ (b : Bool). b || n == m && is_below k j) (sym lower) ∙ e in
        inr (number_is n m (first_of_both (n == m) (is_below k j) rest), second_of_both (n == m) (is_below k j) rest)

both : (n : ℕ) (k : List ℕ) (m : ℕ) (j : List ℕ) → Before n k m j → precedes (Segment n k []) (Segment m j []) ≡ true
both n k m j (inl lower) = let less : nat_lt n m ≡ true = grind (arith, nat_tests) in rw less refl
both n k m j (inr same) =
    let tie : (n == m) ≡ true = subst (λ x. (n == x) ≡ true) same.0 (is_number n) in
    rw (tie, same.1) (by (nat_lt n m))
  where
    by : (b : Bool) → (b || true) ≡ true
    by true = refl
    by false = refl

pub before_trans : (n : ℕ) (k : List ℕ) (m : ℕ) (j : List ℕ) (o : ℕ) (l : List ℕ) → Before n k m j → Before m j o l
    → Before n k o l
before_trans n k m j o l (inl a) (inl b) = inl (omega (arith, a, b))
before_trans n k m j o l (inl a) (inr b) = inl (omega (arith, a, b.0))
before_trans n k m j o l (inr a) (inl b) = inl (omega (arith, a.0, b))
before_trans n k m j o l (inr a) (inr b) = inr (a.0 ∙ b.0, below_trans k j l a.1 b.1)

differs : (n : ℕ) (k : List ℕ) (m : ℕ) (j : List ℕ) → Before n k m j → (n == m && same_text k j) ≡ false
differs n k m j (inl lower) = let other : (n == m) ≡ false = grind (arith, nat_tests) in rw other refl
differs n k m j (inr same) = rw (below_differs k j same.1) (by (n == m))
  where
    by : (b : Bool) → (b && false) ≡ false
    by true = refl
    by false = refl

-- a segment before all others
all_behind : (n : ℕ) (k bytes : List ℕ) (rest : List Item) → AllByRecursion IsSegmentItem rest
    → is_ascending (Segment n k bytes ∷ rest) ≡ true
    → AllByRecursion (λ item. precedes (Segment n k bytes) item ≡ true) rest
all_behind n k bytes [] all order = tt
all_behind n k bytes (Segment m j b ∷ rest) all order =
    let first : precedes (Segment n k bytes) (Segment m j b) ≡ true =
    first_of_both _ (is_ascending (Segment m j b ∷ rest)) order in
    let later = all_behind m j b rest all.1 (second_of_both (precedes (Segment n k bytes) (Segment m j b)) _ order) in
    (first, above rest all.1 later first)
  where
    above : (items : List Item) → AllByRecursion IsSegmentItem items
        → AllByRecursion (λ item. precedes (Segment m j b) item ≡ true) items
        → precedes (Segment n k bytes) (Segment m j b) ≡ true
        → AllByRecursion (λ item. precedes (Segment n k bytes) item ≡ true) items
    above [] segments later first = tt
    above (Segment o l c ∷ items) segments later first = (
      both n k o l (before_trans n k m j o l (split n k m j first) (split m j o l later.0)),
      above items segments.1 later.1 first,
    )
    above (Image set ci c ∷ items) segments later first = absurd segments.0
    above (Range set ci at c ∷ items) segments later first = absurd segments.0
all_behind n k bytes (Image set ci b ∷ rest) all order = absurd all.0
all_behind n k bytes (Range set ci at b ∷ rest) all order = absurd all.0

pub order_behind : (item : Item) (rest : List Item) → is_ascending (item ∷ rest) ≡ true → is_ascending rest ≡ true
order_behind item [] order = refl
order_behind item (next ∷ rest) order = second_of_both (precedes item next) (is_ascending (next ∷ rest)) order

count_cons : (p : Item → Bool) (x : Item) (items : List Item)
    → count_by p (x ∷ items) ≡ (if p x then 1 else 0) + count_by p items
count_cons p x items = sum_by-cons (λ y. if p y then 1 else 0) x items

-- an item doesn't change which of those behind it add a segment
count_behind : (defs : List MsdbDef) (store : Stored) (n : ℕ) (k bytes : List ℕ) → IsOf defs store
    → IsFitSegment defs (Segment n k bytes) → (rest : List Item) → AllByRecursion IsSegmentItem rest
    → AllByRecursion (λ item. precedes (Segment n k bytes) item ≡ true) rest
    → count_by (adds defs (with_item defs store.msdbs (Segment n k bytes))) rest ≡ count_by (adds defs store.msdbs) rest
count_behind defs store n k bytes of fit [] segments behind = refl
count_behind defs store n k bytes of fit (Image set ci b ∷ rest) segments behind = absurd segments.0
count_behind defs store n k bytes of fit (Range set ci at b ∷ rest) segments behind = absurd segments.0
count_behind defs store n k bytes of fit (Segment m j b ∷ rest) segments behind =
    let t : Touch = record { number = n; key = k; bytes = bytes } in
    let apart : (n == m && same_text k j) ≡ false = differs n k m j (split n k m j behind.0) in
    let same : segment_in defs (with_item defs store.msdbs (Segment n k bytes)) m j ≡ segment_in defs store.msdbs m j =
    behind_item defs store.msdbs of.each t fit m j ∙ ap
    (λ (x : Bool). if x then made bytes else segment_in defs store.msdbs m j) apart in
    let one : adds defs (with_item defs store.msdbs (Segment n k bytes)) (Segment m j b) ≡ adds defs store.msdbs
    (Segment m j b) = ap (λ o. has_bytes b && is_none o) same in
    count_more (adds defs (with_item defs store.msdbs (Segment n k bytes))) (adds defs store.msdbs) (Segment m j b) rest
    one (count_behind defs store n k bytes of fit rest segments.1 behind.1)
  where
    count_more : (p q : Item → Bool) (x : Item) (items : List Item) → p x ≡ q x → count_by p items ≡ count_by q items
        → count_by p (x ∷ items) ≡ count_by q (x ∷ items)
    count_more p q x items one more =
        count_cons p x items ∙ ap (λ (b : Bool). (if b then 1 else 0) + count_by p items) one ∙ ap
        (λ (n : ℕ). (if q x then 1 else 0) + n) more ∙ sym (count_cons q x items)

-- ---- publishing

pub record IsPublishing (defs : List MsdbDef) (old now : Stored) (staged : Changes) (rest : List Item) : Type 0 where
  pub of : IsOf defs now
  pub whole : with_items defs now.msdbs rest ≡ with_items defs old.msdbs staged.items
  pub segments : AllByRecursion IsSegmentItem rest
  pub fit : AllByRecursion (IsFitSegment defs) rest
  pub order : is_ascending rest ≡ true
  pub room : count_by (adds defs now.msdbs) rest ≤ now.spare
  pub spare : old.spare + count_by (adds defs now.msdbs) rest ≤ now.spare + staged.inserts
  pub few : AreFew old.msdbs → AreFew now.msdbs

pub at_first : (defs : List MsdbDef) (old : Stored) (staged : Changes) → IsOf defs old → IsStaged defs old.msdbs staged
    → staged.inserts ≤ old.spare → IsPublishing defs old old staged staged.items
at_first defs old staged of is room = record {
  of = of;
  whole = refl;
  segments = is.segments;
  fit = is.fit;
  order = is.in_order;
  room = omega (arith, is.inserts, room);
  spare = omega (arith, is.inserts);
  few = λ few. few;
}

-- the first of the items left may be put
pub first_can : (defs : List MsdbDef) (old now : Stored) (staged : Changes) (item : Item) (rest : List Item)
    → IsPublishing defs old now staged (item ∷ rest) → CanPut defs now item
first_can defs old now staged item rest s = record {
  of = s.of;
  fit = s.fit.0;
  room = λ adds_one. one (adds defs now.msdbs item) adds_one
      (subst (λ n. n ≤ now.spare) (count_cons (adds defs now.msdbs) item rest) s.room);
}
  where
    one : (b : Bool) → b ≡ true → (if b then 1 else 0) + count_by (adds defs now.msdbs) rest ≤ now.spare → 0 < now.spare
    one true e enough = omega (arith, enough)
    one false e enough = absurd (not_both (sym e))

-- and then the others are left
pub one_more : (defs : List MsdbDef) (old now new : Stored) (staged : Changes) (item : Item) (rest : List Item)
    → IsPublishing defs old now staged (item ∷ rest)
    → new.msdbs ≡ with_item defs now.msdbs item → IsOf defs new → KeepsRoom now new (adds defs now.msdbs item)
    → IsPublishing defs old new staged rest
one_more defs old now new staged (Image set ci bytes) rest s is of keeps = absurd s.segments.0
one_more defs old now new staged (Range set ci at bytes) rest s is of keeps = absurd s.segments.0
one_more defs old now new staged (Segment n k bytes) rest s is of keeps =
    let behind = all_behind n k bytes rest s.segments.1 s.order in
    let count : count_by (adds defs new.msdbs) rest ≡ count_by (adds defs now.msdbs) rest =
    ap (λ ms. count_by (adds defs ms) rest) is ∙ count_behind defs now n k bytes s.of s.fit.0 rest s.segments.1
    behind in
    let first = count_cons (adds defs now.msdbs) (Segment n k bytes) rest in
    let room = s.room in
    let spare = s.spare in
    record {
      of = of;
      whole = ap (λ ms. with_items defs ms rest) is ∙ s.whole;
      segments = s.segments.1;
      fit = s.fit.1;
      order = order_behind (Segment n k bytes) rest s.order;
      room = omega (arith, count, first, room, keeps.spare);
      spare = omega (arith, count, first, spare, keeps.spare);
      few = λ few. keeps.few (s.few few);
    }

-- where none of the items left adds a segment the first doesn't,
pub first_adds_none : (defs : List MsdbDef) (msdbs : List Msdb) (item : Item) (rest : List Item)
    → count_by (adds defs msdbs) (item ∷ rest) ≡ 0 → adds defs msdbs item ≡ false
first_adds_none defs msdbs item rest none = by (adds defs msdbs item) (sym (count_cons (adds defs msdbs) item rest) ∙ none)
  where
    by : (b : Bool) → (if b then 1 else 0) + count_by (adds defs msdbs) rest ≡ 0 → b ≡ false
    by true e = absurd (omega (arith, e))
    by false e = refl

-- and behind it none of the others does
pub others_add_none : (defs : List MsdbDef) (old now new : Stored) (staged : Changes) (item : Item) (rest : List Item)
    → IsPublishing defs old now staged (item ∷ rest) → new.msdbs ≡ with_item defs now.msdbs item
    → count_by (adds defs now.msdbs) (item ∷ rest) ≡ 0 → count_by (adds defs new.msdbs) rest ≡ 0
others_add_none defs old now new staged (Image set ci bytes) rest s is none = absurd s.segments.0
others_add_none defs old now new staged (Range set ci at bytes) rest s is none = absurd s.segments.0
others_add_none defs old now new staged (Segment n k bytes) rest s is none =
    let behind = all_behind n k bytes rest s.segments.1 s.order in
    let count : count_by (adds defs new.msdbs) rest ≡ count_by (adds defs now.msdbs) rest =
    ap (λ ms. count_by (adds defs ms) rest) is ∙ count_behind defs now n k bytes s.of s.fit.0 rest s.segments.1
    behind in
    let first = count_cons (adds defs now.msdbs) (Segment n k bytes) rest in
    omega (arith, count, first, none)

-- a call that is done has what it has at Ok
pub done_so : {T E P : Type 0} (r : Result T E) → IsOk r → OnOk r P → P
done_so (Ok value) done holds = holds
done_so (Err e) done holds = absurd (not_both (sym done))

-- at the end
pub all_put : (defs : List MsdbDef) (old now : Stored) (staged : Changes) → IsPublishing defs old now staged []
    → (now.msdbs ≡ with_items defs old.msdbs staged.items) × (old.spare ≤ now.spare + staged.inserts)
all_put defs old now staged s = (s.whole, omega (arith, s.spare))
