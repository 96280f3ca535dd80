-- Ascending items of segments show what they make, so items of the same keys that make the same are one list.
use Rattle.std.proofs.Common.{◌≡◌, ◌⊎◌, inl, inr, refl, sym, ◌∙◌, ap, subst, arith, ℕ, List, [], ◌∷◌, Bool, true, false}
use Rattle.std.specs.Prelude.{if◌then◌else◌, ◌&&◌, ◌==◌, Contains}
use Rattle.std.specs.List.{AllByRecursion, AllZip}
use Rattle.std.proofs.lemmas.Bool.Decides.{nat_tests}
use Rattle.std.proofs.lemmas.List.Elements.{Contains-append_left, Contains-append_right, Contains-append_cases, Contains-push, Contains-push_cases}
use Rattle.fp_model.specs.CheckpointText.{IsMsdbOf}
use Rattle.fp_model.specs.Items.{with_item, with_items}
use Rattle.fp_model.specs.ItemTargets.{is_ascending, precedes}
use Rattle.fp_model.specs.Texts.{same_text}
use Rattle.fp_model.specs.declared.database.Msdb.{Msdb}
use Rattle.fp_model.specs.declared.definitions.MsdbDef.{MsdbDef}
use Rattle.fp_model.specs.declared.log.Item.{Item}
use Rattle.fp_model.specs.declared.log.Item.TheVariants.{Segment, Image, Range}
use Rattle.msdb_store.specs.Settling.{HasItem, IsSegmentItem}
use Rattle.msdb_store.specs.Store.{IsFitSegment, segment_in}
use Rattle.msdb_store.specs.Touches.{Touch}
use Rattle.msdb_store.specs.inside.Touches.{made}
use Rattle.key_order.proofs.Ascending.{below_differs, differs_back, not_below_itself, not_both}
use Rattle.msdb_store.proofs.Databases.{AreOf, item_good}
use Rattle.msdb_store.proofs.Publishing.{Before, before_trans, order_behind, split}
use Rattle.msdb_store.proofs.Stagings.{behind_item, has_its}
use Rattle.plain_laws.proofs.Truths.{first_of_both}

-- ---- what a list contains

contains_nothing : (x : Item) → Contains [] x → ⊥
contains_nothing x c = absurd (omega (arith, c.1))

contains_first : (x : Item) (xs : List Item) → Contains (x ∷ xs) x
contains_first x xs = Contains-append_left (x ∷ []) xs x (Contains-push [] x)

contains_later : (y : Item) (xs : List Item) (x : Item) → Contains xs x → Contains (y ∷ xs) x
contains_later y xs x c = Contains-append_right (y ∷ []) xs x c

contains_cases : (y : Item) (xs : List Item) (x : Item) → Contains (y ∷ xs) x → (y ≡ x) ⊎ Contains xs x
contains_cases y xs x c = elim (Contains-append_cases (y ∷ []) xs x c) [
  | inl here ↦ elim (Contains-push_cases [] y x here)
      [ inl none ↦ absurd (contains_nothing x none) | inr same ↦ inl same ]
  | inr there ↦ inr there
]

-- ---- the order of keys

never_itself : (n : ℕ) (k : List ℕ) → Before n k n k → ⊥
never_itself n k (inl less) = omega (arith, less)
never_itself n k (inr below) = not_both (sym below.1 ∙ not_below_itself k)

apart : (n : ℕ) (k : List ℕ) (m : ℕ) (j : List ℕ) → Before n k m j → (m == n && same_text j k) ≡ false
apart n k m j (inl lower) = let other : (m == n) ≡ false = grind (arith, nat_tests) in rw other refl
apart n k m j (inr same) = rw (differs_back k j (below_differs k j same.1)) (by (m == n))
  where
    by : (b : Bool) → (b && false) ≡ false
    by true = refl
    by false = refl

-- ---- ascending items

same_parts : (n : ℕ) (k b : List ℕ) (m : ℕ) (j c : List ℕ) → Segment n k b ≡ Segment m j c
    → (n ≡ m) × (k ≡ j) × (b ≡ c)
same_parts n k b m j c e = (cc, cc, cc)

-- a key comes before those of all these items
abbrev IsBeforeAll : ℕ → List ℕ → List Item → Type 0
IsBeforeAll n k items = (m : ℕ) (j c : List ℕ) → Contains items (Segment m j c) → Before n k m j

before_all : (n : ℕ) (k b : List ℕ) (items : List Item) → AllByRecursion IsSegmentItem items
    → is_ascending (Segment n k b ∷ items) ≡ true → IsBeforeAll n k items
before_all n k b [] segments order m j c there = absurd (contains_nothing (Segment m j c) there)
before_all n k b (Segment o l d ∷ rest) segments order m j c there =
    let first = split n k o l
    (first_of_both (precedes (Segment n k b) (Segment o l d)) (is_ascending (Segment o l d ∷ rest)) order) in
    let later = before_all o l d rest segments.1 (order_behind (Segment n k b) (Segment o l d ∷ rest) order) in
    elim (contains_cases (Segment o l d) rest (Segment m j c) there) [
      | inl same ↦
          let parts = same_parts o l d m j c same in
          subst (λ (x : ℕ). Before n k x j) parts.0 (subst (λ (x : List ℕ). Before n k o x) parts.1 first)
      | inr behind ↦ before_trans n k o l m j first (later m j c behind)
    ]
before_all n k b (Image set ci d ∷ rest) segments order m j c there = absurd segments.0
before_all n k b (Range set ci at d ∷ rest) segments order m j c there = absurd segments.0

-- ---- what items make of a key

module _ (defs : List MsdbDef) where
  -- a key before those of all items stays as it is
  untouched : (n : ℕ) (k : List ℕ) (items : List Item) (before : List Msdb) → AreOf defs before
      → AllByRecursion IsSegmentItem items → AllByRecursion (IsFitSegment defs) items → IsBeforeAll n k items
      → segment_in defs (with_items defs before items) n k ≡ segment_in defs before n k
  untouched n k [] before of segments fit all = refl
  untouched n k (Segment m j c ∷ rest) before of segments fit all =
      let t : Touch = record { number = m; key = j; bytes = c } in
      untouched n k rest (with_item defs before (Segment m j c))
      (item_good defs before of m j c fit.0) segments.1 fit.1
      (λ o l d there. all o l d (contains_later (Segment m j c) rest (Segment o l d) there))
      ∙ behind_item defs before of t fit.0 n k
      ∙ ap (λ (b : Bool). if b then made c else segment_in defs before n k)
      (apart n k m j (all m j c (contains_first (Segment m j c) rest)))
  untouched n k (Image set ci c ∷ rest) before of segments fit all = absurd segments.0
  untouched n k (Range set ci at c ∷ rest) before of segments fit all = absurd segments.0

  -- the segment of an item stands in these databases
  abbrev Shows : List Msdb → Item → Type 0
  Shows after (Segment n k b) = segment_in defs after n k ≡ made b
  Shows after (Image set ci b) = Unit {0}
  Shows after (Range set ci at b) = Unit {0}

  -- so does each behind ascending items
  shows : (items : List Item) (before : List Msdb) → AreOf defs before
      → AllByRecursion IsSegmentItem items → AllByRecursion (IsFitSegment defs) items → is_ascending items ≡ true
      → (item : Item) → Contains items item → Shows (with_items defs before items) item
  shows [] before of segments fit order item there = absurd (contains_nothing item there)
  shows (Segment m j c ∷ rest) before of segments fit order item there =
      let t : Touch = record { number = m; key = j; bytes = c } in
      let mid = with_item defs before (Segment m j c) in
      let good = item_good defs before of m j c fit.0 in
      elim (contains_cases (Segment m j c) rest item there) [
        | inl same ↦
            subst (Shows (with_items defs mid rest)) same
            (untouched m j rest mid good segments.1 fit.1 (before_all m j c rest segments.1 order)
            ∙ behind_item defs before of t fit.0 m j
            ∙ ap (λ (b : Bool). if b then made c else segment_in defs before m j) (has_its t))
        | inr behind ↦ shows rest mid good segments.1 fit.1 (order_behind (Segment m j c) rest order) item behind
      ]
  shows (Image set ci c ∷ rest) before of segments fit order item there = absurd segments.0
  shows (Range set ci at c ∷ rest) before of segments fit order item there = absurd segments.0

  -- and the databases behind them are of the definitions
  pub still_of : (items : List Item) (before : List Msdb) → AreOf defs before
      → AllByRecursion IsSegmentItem items → AllByRecursion (IsFitSegment defs) items
      → AreOf defs (with_items defs before items)
  still_of [] before of segments fit = of
  still_of (Segment m j c ∷ rest) before of segments fit =
      still_of rest (with_item defs before (Segment m j c)) (item_good defs before of m j c fit.0)
      segments.1 fit.1
  still_of (Image set ci c ∷ rest) before of segments fit = absurd segments.0
  still_of (Range set ci at c ∷ rest) before of segments fit = absurd segments.0

made_same : (b c : List ℕ) → made b ≡ made c → b ≡ c
made_same [] [] e = refl
made_same [] (x ∷ c) e = absurd cc
made_same (x ∷ b) [] e = absurd cc
made_same (x ∷ b) (y ∷ c) e = cc

-- ---- two lists of the same keys

-- behind a first key that both have, the rests have the same
rest_has : (n : ℕ) (k b : List ℕ) (xs : List Item) (m : ℕ) (j c : List ℕ) (ys : List Item) → n ≡ m → k ≡ j
    → IsBeforeAll n k xs
    → ((o : ℕ) (l : List ℕ) → HasItem (Segment n k b ∷ xs) o l → HasItem (Segment m j c ∷ ys) o l)
    → (o : ℕ) (l : List ℕ) → HasItem xs o l → HasItem ys o l
rest_has n k b xs m j c ys same same2 all to o l it =
    let there = to o l (it.0, contains_later (Segment n k b) xs (Segment o l it.0) it.1) in
    elim (contains_cases (Segment m j c) ys (Segment o l there.0) there.1) [
      | inl first ↦
          let parts = same_parts m j c o l there.0 first in
          absurd (never_itself n k
          (subst (λ (x : ℕ). Before n k x k) (sym (same ∙ parts.0))
          (subst (λ (x : List ℕ). Before n k o x) (sym (same2 ∙ parts.1)) (all o l it.0 it.1))))
      | inr behind ↦ (there.0, behind)
    ]

one_list : (xs ys : List Item) → AllByRecursion IsSegmentItem xs → AllByRecursion IsSegmentItem ys
    → is_ascending xs ≡ true → is_ascending ys ≡ true
    → ((n : ℕ) (k : List ℕ) → HasItem xs n k → HasItem ys n k)
    → ((n : ℕ) (k : List ℕ) → HasItem ys n k → HasItem xs n k)
    → ((n : ℕ) (k b c : List ℕ) → Contains xs (Segment n k b) → Contains ys (Segment n k c) → b ≡ c)
    → xs ≡ ys
one_list [] [] sx sy ox oy to from bytes = refl
one_list [] (Segment m j c ∷ ys) sx sy ox oy to from bytes =
    let there = from m j (c, contains_first (Segment m j c) ys) in
    absurd (contains_nothing (Segment m j there.0) there.1)
one_list [] (Image set ci c ∷ ys) sx sy ox oy to from bytes = absurd sy.0
one_list [] (Range set ci at c ∷ ys) sx sy ox oy to from bytes = absurd sy.0
one_list (Image set ci b ∷ xs) ys sx sy ox oy to from bytes = absurd sx.0
one_list (Range set ci at b ∷ xs) ys sx sy ox oy to from bytes = absurd sx.0
one_list (Segment n k b ∷ xs) [] sx sy ox oy to from bytes =
    let there = to n k (b, contains_first (Segment n k b) xs) in
    absurd (contains_nothing (Segment n k there.0) there.1)
one_list (Segment n k b ∷ xs) (Image set ci c ∷ ys) sx sy ox oy to from bytes = absurd sy.0
one_list (Segment n k b ∷ xs) (Range set ci at c ∷ ys) sx sy ox oy to from bytes = absurd sy.0
one_list (Segment n k b ∷ xs) (Segment m j c ∷ ys) sx sy ox oy to from bytes =
    let before = before_all n k b xs sx.1 ox in
    let before2 = before_all m j c ys sy.1 oy in
    let same = heads before before2 in
    let same_bytes : b ≡ c = bytes n k b c (contains_first (Segment n k b) xs)
    (subst (λ (x : ℕ). Contains (Segment m j c ∷ ys) (Segment x k c)) (sym same.0)
    (subst (λ (x : List ℕ). Contains (Segment m j c ∷ ys) (Segment m x c)) (sym same.1)
    (contains_first (Segment m j c) ys))) in
    let rest = one_list xs ys sx.1 sy.1 (order_behind (Segment n k b) xs ox) (order_behind (Segment m j c) ys oy)
    (rest_has n k b xs m j c ys same.0 same.1 before to)
    (rest_has m j c ys n k b xs (sym same.0) (sym same.1) before2 from)
    (λ o l d e there there2. bytes o l d e (contains_later (Segment n k b) xs (Segment o l d) there)
    (contains_later (Segment m j c) ys (Segment o l e) there2)) in
    ap (λ (x : ℕ). Segment x k b ∷ xs) same.0 ∙ ap (λ (x : List ℕ). Segment m x b ∷ xs) same.1
    ∙ ap (λ (x : List ℕ). Segment m j x ∷ xs) same_bytes ∙ ap (λ (zs : List Item). Segment m j c ∷ zs) rest
  where
    heads : IsBeforeAll n k xs → IsBeforeAll m j ys → (n ≡ m) × (k ≡ j)
    heads before before2 =
        let there = to n k (b, contains_first (Segment n k b) xs) in
        let there2 = from m j (c, contains_first (Segment m j c) ys) in
        elim (contains_cases (Segment m j c) ys (Segment n k there.0) there.1) [
          | inl first ↦ let parts = same_parts m j c n k there.0 first in (sym parts.0, sym parts.1)
          | inr behind ↦ elim (contains_cases (Segment n k b) xs (Segment m j there2.0) there2.1) [
            | inl first ↦ let parts = same_parts n k b m j there2.0 first in (parts.0, parts.1)
            | inr behind2 ↦
                absurd (never_itself n k
                (before_trans n k m j n k (before m j there2.0 behind2) (before2 n k there.0 behind)))
          ]
        ]

-- Ascending items of segments, of the same keys, that make the same databases of the same are one list.
pub items_are_one : (defs : List MsdbDef) (before after : List Msdb) (xs ys : List Item)
    → AllZip IsMsdbOf defs before
    → AllByRecursion IsSegmentItem xs → AllByRecursion (IsFitSegment defs) xs → is_ascending xs ≡ true
    → with_items defs before xs ≡ after
    → AllByRecursion IsSegmentItem ys → AllByRecursion (IsFitSegment defs) ys → is_ascending ys ≡ true
    → with_items defs before ys ≡ after
    → ((n : ℕ) (k : List ℕ) → HasItem xs n k → HasItem ys n k)
    → ((n : ℕ) (k : List ℕ) → HasItem ys n k → HasItem xs n k)
    → xs ≡ ys
items_are_one defs before after xs ys of sx fx ox makes_x sy fy oy makes_y to from =
    one_list xs ys sx sy ox oy to from
    (λ n k b c there there2. made_same b c
    (sym (subst (λ (ms : List Msdb). segment_in defs ms n k ≡ made b) makes_x
    (shows defs xs before of sx fx ox (Segment n k b) there))
    ∙ subst (λ (ms : List Msdb). segment_in defs ms n k ≡ made c) makes_y
    (shows defs ys before of sy fy oy (Segment n k c) there2)))
