-- A sequential insert in its area: its serial is new.
use Rattle.std.proofs.Common.{◌≡◌, ℕ, zero, suc, ◌+◌, ◌<◌, ◌≤◌, List, [], ◌∷◌, map, take, drop, Some, refl, sym, ◌∙◌, ap, subst, Bool, true, false, ◌&&◌, ◌||◌, ◌==◌, nat_le, nat_lt, slice_get, slice_set, arith, ◌⊎◌, inl, inr}
use Rattle.std.specs.Prelude.{Contains, flat_map, if◌then◌else◌}
use Rattle.std.specs.List.{AllByRecursion, IsDistinct}
use Rattle.std.proofs.lemmas.Bool.{cases_eq, and_from}
use Rattle.fp_model.specs.declared.database.AreaEnds.{AreaEnds}
use Rattle.fp_model.specs.declared.database.Dedb.{Dedb}
use Rattle.fp_model.specs.declared.database.Root.{Root}
use Rattle.fp_model.specs.declared.database.SeqItem.{SeqItem}
use Rattle.fp_model.specs.declared.definitions.DedbDef.{DedbDef}
use Rattle.fp_model.specs.Commit.{with_newest}
use Rattle.fp_model.specs.Order.{root_key}
use Rattle.fp_model.specs.Shape.{IsDedbOf, are_ends, are_newest_first, is_anchor, serials_in}
use Rattle.fp_model.specs.State.{Area, anchors_in, areas_from, ascend, change_key, has_anchor, is_below}
use Rattle.fp_model.specs.Texts.{same_text}
use Rattle.state_laws.specs.Inserts.{FitsSequential, ending_at, with_sequential, with_serial}
use Rattle.state_laws.proofs.Areas.{AreApart, LiesIn, lies_in, lies_outside, placed, same_or_apart}
use Rattle.key_order.proofs.Ascending.{all_above, below_differs, differs_back, tail_ascends}
use Rattle.state_laws.proofs.Changing.{serials_at, serials_of}
use Rattle.state_laws.proofs.Counts.{distinct_few, few_times, times, times_append}
use Rattle.state_laws.proofs.Inserting.{anchor_later, anchor_with}
use Rattle.state_laws.proofs.Lists.{each_at, true_is_not_false}
use Rattle.state_laws.proofs.Purging.{are_the_ends, ends_are}
use Rattle.state_laws.proofs.Ranges.{part_same}
use Rattle.state_laws.proofs.Roots.{passes, to_good, whole}
use Rattle.plain_laws.proofs.Alls.{each_set}
use Rattle.plain_laws.proofs.Truths.{first_of_both, second_of_both}
use Rattle.plain_laws.proofs.Places.{get_other, get_set_same, length_set}
use Rattle.plain_laws.proofs.Numbers.{is_le, lt_is, lt_true}
use Rattle.model_laws.proofs.Texts.{same_text_is}
use Rattle.std.proofs.lemmas.Option.{same_Some}

-- ---- parts

module _ {X : Type 0} (f : X → List ℕ) (n : ℕ) where
  front_none : (count : ℕ) (xs : List X) → ((k : ℕ) (x : X) → k < count → slice_get xs k ≡ Some x → times n (f x) ≤ 0)
      → times n (flat_map f (take count xs)) ≤ 0
  front_none zero xs h = omega arith
  front_none (suc count) [] h = omega arith
  front_none (suc count) (x ∷ xs) h =
      let one = h 0 x (omega arith) refl in
      let rest = front_none count xs (λ k y low e. h (suc k) y (omega (arith, low)) e) in
      omega (arith, one, rest, times_append n (f x) (flat_map f (take count xs)))

  -- a part of whose elements none has the number
  part_none : (count first : ℕ) (xs : List X) → ((k : ℕ) (x : X) → first ≤ k → k < first + count
      → slice_get xs k ≡ Some x → times n (f x) ≤ 0) → times n (flat_map f (take count (drop first xs))) ≤ 0
  part_none count zero xs h = front_none count xs (λ k x low e. h k x (omega arith) (omega (arith, low)) e)
  part_none zero (suc first) xs h = omega arith
  part_none (suc count) (suc first) [] h = omega arith
  part_none (suc count) (suc first) (x ∷ xs) h = part_none (suc count) first xs
      (λ k y low high e. h (suc k) y (omega (arith, low)) (omega (arith, high)) e)

  module _ (y : X) (more : ℕ) where
    front_more : (count : ℕ) (xs : List X) (a : ℕ) (x : X) → slice_get xs a ≡ Some x
        → times n (f y) ≤ times n (f x) + more → times n (flat_map f (take count (slice_set xs a y))) ≤ times n
        (flat_map f (take count xs)) + more
    front_more zero xs a x at le = omega arith
    front_more (suc count) [] a x at le = omega arith
    front_more (suc count) (z ∷ zs) zero x at le =
        let le2 : times n (f y) ≤ times n (f z) + more =
        subst (λ (w : X). times n (f y) ≤ times n (f w) + more) (sym (same_Some z x at)) le in
        omega (
          arith,
          le2,
          times_append n (f y) (flat_map f (take count zs)),
          times_append n (f z) (flat_map f (take count zs)),
        )
    front_more (suc count) (z ∷ zs) (suc a) x at le =
        omega (
          arith,
          front_more count zs a x at le,
          times_append n (f z) (flat_map f (take count (slice_set zs a y))),
          times_append n (f z) (flat_map f (take count zs)),
        )

    -- a part one of whose elements has so many more of it
    part_more : (count first : ℕ) (xs : List X) (a : ℕ) (x : X) → slice_get xs a ≡ Some x
        → times n (f y) ≤ times n (f x) + more → times n (flat_map f (take count (drop first (slice_set xs a y)))) ≤
        times n (flat_map f (take count (drop first xs))) + more
    part_more count zero xs a x at le = front_more count xs a x at le
    part_more count (suc first) [] a x at le = omega arith
    part_more count (suc first) (z ∷ zs) zero x at le = omega arith
    part_more count (suc first) (z ∷ zs) (suc a) x at le = part_more count first zs a x at le

-- ---- one anchor

-- no serial below the end is the end
none_newest : (begin end last : ℕ) (items : List SeqItem) → end ≤ last → are_newest_first begin end items ≡ true
    → times last (map (λ item. item.serial) items) ≤ 0
none_newest begin end last [] le e = omega arith
none_newest begin end last (item ∷ items) le e =
    let front = first_of_both (nat_le begin item.serial && nat_lt item.serial end)
    (are_newest_first begin item.serial items) e in
    let less = lt_is item.serial end (second_of_both (nat_le begin item.serial) (nat_lt item.serial end) front) in
    by (item.serial == last) refl (omega (arith, less, le))
    (none_newest begin item.serial last items (omega (arith, less, le))
    (second_of_both (nat_le begin item.serial && nat_lt item.serial end) (are_newest_first begin item.serial items) e))
  where
    number_is : (a b : ℕ) → (a == b) ≡ true → a ≡ b
    number_is a b e = grind arith

    by : (b : Bool) → (item.serial == last) ≡ b → item.serial < last → times last (map (λ i. i.serial) items) ≤ 0
        → (if b then 1 else 0) + times last (map (λ i. i.serial) items) ≤ 0
    by true is less rest = let same = number_is item.serial last is in absurd (omega (arith, same, less))
    by false is less rest = omega (arith, rest)

none_at_anchor : (def : DedbDef) (anchor : ℕ) (ends : AreaEnds) (roots : List Root)
    → AllByRecursion (λ root. passes def anchor ends root ≡ true) roots → times ends.end (serials_at roots) ≤ 0
none_at_anchor def anchor ends [] all = omega arith
none_at_anchor def anchor ends (root ∷ roots) all =
    let one = none_newest ends.begin ends.end ends.end root.seqs (omega arith) (whole def anchor ends root all.0).newest
    in
    omega (
      arith,
      one,
      none_at_anchor def anchor ends roots all.1,
      times_append ends.end (serials_of root) (serials_at roots),
    )

-- one more of a number, if it is this
abbrev one_if : ℕ → ℕ → ℕ
one_if m n = if m == n then 1 else 0

module _ (key : Root → List ℕ) (k : List ℕ) (item : SeqItem) (n : ℕ) where
  -- roots of other keys are as they were
  none_changed : (roots : List Root) → AllByRecursion (λ r. same_text (key r) k ≡ false) roots
      → change_key key k (with_newest item) roots ≡ roots
  none_changed [] all = refl
  none_changed (r ∷ rs) all = rw all.0 (ap (λ zs. r ∷ zs) (none_changed rs all.1))

  others_differ : (r : Root) (rs : List Root) → key r ≡ k → AllByRecursion (λ y. is_below (key r) (key y) ≡ true) rs
      → AllByRecursion (λ y. same_text (key y) k ≡ false) rs
  others_differ r [] same above = tt
  others_differ r (y ∷ ys) same above = (
    subst (λ (j : List ℕ). same_text (key y) j ≡ false) same
        (differs_back (key r) (key y) (below_differs (key r) (key y) above.0)),
    others_differ r ys same above.1,
  )

  -- at most one root has the item more
  one_more : (roots : List Root) → ascend (map key roots) ≡ true
      → times n (serials_at (change_key key k (with_newest item) roots)) ≤ times n (serials_at roots) + one_if
      item.serial n
  one_more [] up = omega arith
  one_more (r ∷ rs) up = by (same_text (key r) k) refl (one_more rs (tail_ascends key r rs up))
    where
      by : (b : Bool) → same_text (key r) k ≡ b → times n (serials_at (change_key key k (with_newest item) rs)) ≤ times
          n (serials_at rs) + one_if item.serial n
          → times n (serials_at ((if b then with_newest item r else r) ∷ change_key key k (with_newest item) rs)) ≤
          times n (serials_at (r ∷ rs)) + one_if item.serial n
      by true is rest =
          let same = none_changed rs (others_differ r rs (same_text_is (key r) k is) (all_above key r rs up)) in
          let counts : times n (serials_at (change_key key k (with_newest item) rs)) ≡ times n (serials_at rs) =
          ap (λ (zs : List Root). times n (serials_at zs)) same in
          let a : times n (serials_at (with_newest item r ∷ change_key key k (with_newest item) rs)) ≡
          (one_if item.serial n + times n (serials_of r)) + times n
          (serials_at (change_key key k (with_newest item) rs)) =
          times_append n (serials_of (with_newest item r)) (serials_at (change_key key k (with_newest item) rs)) in
          let b : times n (serials_at (r ∷ rs)) ≡ times n (serials_of r) + times n (serials_at rs) =
          times_append n (serials_of r) (serials_at rs) in
          omega (arith, counts, a, b)
      by false is rest =
          let a : times n (serials_at (r ∷ change_key key k (with_newest item) rs)) ≡ times n (serials_of r) + times n
          (serials_at (change_key key k (with_newest item) rs)) =
          times_append n (serials_of r) (serials_at (change_key key k (with_newest item) rs)) in
          let b : times n (serials_at (r ∷ rs)) ≡ times n (serials_of r) + times n (serials_at rs) =
          times_append n (serials_of r) (serials_at rs) in
          omega (arith, rest, a, b)

-- ---- the database

module _ (def : DedbDef) (dedb : Dedb) (area : Area) (anchor : ℕ) (ends : AreaEnds) (roots : List Root)
    (key bytes : List ℕ) (good : IsDedbOf def dedb) (fits : FitsSequential def dedb area anchor ends roots bytes) where
  its_def : slice_get def.areas area.number ≡ Some area.def
  its_def = let p = placed 0 0 0 def.areas area fits.area_there in
      let same : p.place ≡ area.number = omega (arith, p.its_number) in
      subst (λ (k : ℕ). slice_get def.areas k ≡ Some area.def) same p.its_def

  ends_good : are_ends area.def.capacity ends ≡ true
  ends_good = each_at (λ area ends. are_ends area.capacity ends ≡ true) def.areas dedb.areas area.number area.def ends
      good.areas its_def fits.ends_now

  next_good : are_ends area.def.capacity (ending_at (ends.end + 1) ends) ≡ true
  next_good =
      let k = ends_are area.def.capacity ends ends_good in
      are_the_ends area.def.capacity (ending_at (ends.end + 1) ends) (record {
        some = k.some;
        order = omega (arith, k.order);
        room = fits.room;
        last = fits.last;
        part = or_true (nat_lt 0 area.def.capacity) (ends.end + 1 == 1)
            (lt_true 0 area.def.capacity (omega (arith, k.order, fits.room)));
      })
    where
      or_true : (a b : Bool) → a ≡ true → (a || b) ≡ true
      or_true true b e = refl
      or_true false b e = absurd (true_is_not_false (sym e))

  now_good : is_anchor def anchor ends roots ≡ true
  now_good = good.each_anchor area ends anchor roots fits.area_there fits.ends_now fits.in_area fits.roots_now

  abbrev after : Dedb
  after = with_sequential def area anchor ends roots key bytes dedb

  anchors_after : (b : Area) (ends2 : AreaEnds) (at : ℕ) (y : List Root) → Contains (areas_from 0 0 0 def.areas) b
      → slice_get (slice_set dedb.areas area.number (ending_at (ends.end + 1) ends)) b.number ≡ Some ends2
      → has_anchor b 0 at ≡ true
      → slice_get (slice_set dedb.anchors anchor (with_serial def ends.end key bytes roots)) at ≡ Some y
      → is_anchor def at ends2 y ≡ true
  anchors_after b ends2 at y b_there b_at has e = by (same_or_apart 0 0 0 def.areas area b fits.area_there b_there)
      (cases_eq at anchor)
    where
      new : List Root
      new = with_serial def ends.end key bytes roots

      by : (area ≡ b) ⊎ AreApart area b → (at ≡ anchor) ⊎ ¬ (at ≡ anchor) → is_anchor def at ends2 y ≡ true
      by (inl same) here =
          let at_area : slice_get (slice_set dedb.areas area.number (ending_at (ends.end + 1) ends)) area.number ≡ Some
          ends2 = subst (λ (x : Area). slice_get (slice_set dedb.areas area.number (ending_at (ends.end + 1) ends))
          x.number ≡ Some ends2) (sym same) b_at in
          let ends_is : ending_at (ends.end + 1) ends ≡ ends2 =
          same_Some (ending_at (ends.end + 1) ends) ends2
          (sym (get_set_same dedb.areas area.number (ending_at (ends.end + 1) ends) ends fits.ends_now) ∙ at_area)
          in
          subst (λ (x : AreaEnds). is_anchor def at x y ≡ true) ends_is (in_area here)
        where
          in_area : (at ≡ anchor) ⊎ ¬ (at ≡ anchor) → is_anchor def at (ending_at (ends.end + 1) ends) y ≡ true
          in_area (inl is) =
              let there : slice_get (slice_set dedb.anchors anchor (with_serial def ends.end key bytes roots)) anchor ≡
              Some y = subst (λ (k : ℕ). slice_get
              (slice_set dedb.anchors anchor (with_serial def ends.end key bytes roots)) k ≡ Some y) is e in
              let y_is : with_serial def ends.end key bytes roots ≡ y =
              same_Some (with_serial def ends.end key bytes roots) y
              (sym (get_set_same dedb.anchors anchor (with_serial def ends.end key bytes roots) roots
              fits.roots_now) ∙ there) in
              let order = (ends_are area.def.capacity ends ends_good).order in
              subst (λ (k : ℕ). is_anchor def k (ending_at (ends.end + 1) ends) y ≡ true) (sym is)
              (subst (λ (rs : List Root). is_anchor def anchor (ending_at (ends.end + 1) ends) rs ≡ true) y_is
              (anchor_with def anchor ends key bytes fits.type order fits.kind fits.long roots now_good))
          in_area (inr other) =
              anchor_later def at ends (ends.end + 1) (omega arith) y
              (good.each_anchor area ends at y fits.area_there fits.ends_now
              (subst (λ (x : Area). has_anchor x 0 at ≡ true) (sym same) has)
              (sym (get_other dedb.anchors anchor at (with_serial def ends.end key bytes roots) other) ∙ e))
      by (inr apart) (inl is) = absurd (beside (lies_outside area b anchor apart
          (subst (λ (k : ℕ). LiesIn b k) is (lies_in b 0 at has))))
        where
          beside : (anchor < area.first_anchor) ⊎ (area.first_anchor + anchors_in area.def ≤ anchor) → ⊥
          beside (inl below) = let l = lies_in area 0 anchor fits.in_area in absurd (omega (arith, below, l.low))
          beside (inr behind) = let l = lies_in area 0 anchor fits.in_area in absurd (omega (arith, behind, l.high))
      by (inr apart) (inr other) =
          good.each_anchor b ends2 at y b_there (sym
          (get_other dedb.areas area.number b.number (ending_at (ends.end + 1) ends)
          (λ q. apart.numbers (sym q))) ∙ b_at) has
          (sym (get_other dedb.anchors anchor at (with_serial def ends.end key bytes roots) other) ∙ e)

  -- the end isn't a serial of the area yet
  end_is_new : times ends.end (serials_in area dedb) ≤ 0
  end_is_new = part_none serials_at ends.end (anchors_in area.def) area.first_anchor dedb.anchors (λ k y low high e.
      none_at_anchor def k ends y (to_good def k ends y
      (good.each_anchor area ends k y fits.area_there fits.ends_now (is_in area k fits.in_area low high) e)).0)
    where
      is_in : (a : Area) (k : ℕ) → has_anchor a 0 anchor ≡ true → a.first_anchor ≤ k
          → k < a.first_anchor + anchors_in a.def → has_anchor a 0 k ≡ true
      is_in a k e low high =
          let front = first_of_both (a.dedb == 0 && nat_le a.first_anchor anchor)
          (nat_lt anchor (a.first_anchor + anchors_in a.def)) e in
          let its = first_of_both (a.dedb == 0) (nat_le a.first_anchor anchor) front in
          and_from (a.dedb == 0 && nat_le a.first_anchor k) (nat_lt k (a.first_anchor + anchors_in a.def))
          (and_from (a.dedb == 0) (nat_le a.first_anchor k) its (is_le a.first_anchor k low))
          (lt_true k (a.first_anchor + anchors_in a.def) high)

  few_after : (n : ℕ) → times n (serials_in area after) ≤ 1
  few_after n =
      let one = one_more (root_key def.segments) key (record {
        serial = ends.end;
        bytes =
            bytes;
      }) n roots (to_good def anchor ends roots now_good).1 in
      let all = part_more serials_at n (with_serial def ends.end key bytes roots) (one_if ends.end n)
      (anchors_in area.def) area.first_anchor dedb.anchors anchor roots fits.roots_now one in
      by (ends.end == n) refl all (few_times (serials_in area dedb) (good.serials area fits.area_there) n)
    where
      number_same : (a b : ℕ) → (a == b) ≡ true → a ≡ b
      number_same a b e = grind arith

      by : (b : Bool) → (ends.end == n) ≡ b → times n (serials_in area after) ≤ times n (serials_in area dedb) +
          (if b then 1 else 0) → times n (serials_in area dedb) ≤ 1 → times n (serials_in area after) ≤ 1
      by true is le few =
          let none : times n (serials_in area dedb) ≤ 0 =
          subst (λ (k : ℕ). times k (serials_in area dedb) ≤ 0) (number_same ends.end n is) end_is_new in
          omega (arith, le, none)
      by false is le few = omega (arith, le, few)

  serials_after : (b : Area) → Contains (areas_from 0 0 0 def.areas) b → IsDistinct ◌==◌ (serials_in b after)
  serials_after b b_there = by (same_or_apart 0 0 0 def.areas area b fits.area_there b_there)
    where
      by : (area ≡ b) ⊎ AreApart area b → IsDistinct ◌==◌ (serials_in b after)
      by (inl same) = subst (λ (x : Area). IsDistinct ◌==◌ (serials_in x after)) same
          (distinct_few (serials_in area after) few_after)
      by (inr apart) =
          let part = part_same (anchors_in b.def) b.first_anchor dedb.anchors
          (slice_set dedb.anchors anchor (with_serial def ends.end key bytes roots))
          (λ k low high. get_other dedb.anchors anchor k (with_serial def ends.end key bytes roots)
          (λ q. beside k (lies_outside area b k apart (record { low = low; high = high })) q)) in
          subst (λ (anchors : List (List Root)). IsDistinct ◌==◌ (flat_map serials_at anchors)) (sym part)
          (good.serials b b_there)
        where
          beside : (k : ℕ) → (k < area.first_anchor) ⊎ (area.first_anchor + anchors_in area.def ≤ k) → k ≡ anchor → ⊥
          beside k (inl below) same = let l = lies_in area 0 anchor fits.in_area in
              absurd (omega (arith, below, l.low, same))
          beside k (inr behind) same = let l = lies_in area 0 anchor fits.in_area in
              absurd (omega (arith, behind, l.high, same))

  pub sequential_good : IsDedbOf def (with_sequential def area anchor ends roots key bytes dedb)
  sequential_good = record {
    anchors = length_set dedb.anchors anchor (with_serial def ends.end key bytes roots) ∙ good.anchors;
    areas = each_set (λ area ends. are_ends area.capacity ends ≡ true) def.areas dedb.areas area.number area.def
        (ending_at (ends.end + 1) ends) good.areas its_def next_good;
    each_anchor = anchors_after;
    serials = serials_after;
  }
