-- Other roots at an anchor: no serial stands there that didn't, and none twice.
use Rattle.std.proofs.Common.{◌≡◌, ℕ, zero, suc, ◌+◌, ◌≤◌, List, [], ◌∷◌, map, Some, refl, sym, ◌∙◌, ap, subst, Bool, true, false, not, slice_get, slice_set, arith, ◌⊎◌, inl, inr}
use Rattle.std.specs.Prelude.{Contains, flat_map, if◌then◌else◌}
use Rattle.std.specs.List.{AllByRecursion}
use Rattle.std.proofs.lemmas.Bool.{cases_eq}
use Rattle.fp_model.specs.declared.database.AreaEnds.{AreaEnds}
use Rattle.fp_model.specs.declared.database.Dedb.{Dedb}
use Rattle.fp_model.specs.declared.database.Root.{Root}
use Rattle.fp_model.specs.declared.definitions.DedbDef.{DedbDef}
use Rattle.fp_model.specs.Order.{root_key}
use Rattle.fp_model.specs.Shape.{IsDedbOf, is_anchor, serials_in}
use Rattle.fp_model.specs.State.{Area, anchors_in, areas_from, ascend, drop_key, has_anchor, is_below}
use Rattle.fp_model.specs.Texts.{same_text}
use Rattle.state_laws.specs.Changes.{FitsChange, HasNoneOrNow, IsNow, with_anchor}
use Rattle.key_order.proofs.Ascending.{all_above, below_differs, differs_back, tail_ascends}
use Rattle.state_laws.proofs.Counts.{distinct_few, few_times, part_fewer, times, times_append}
use Rattle.state_laws.proofs.Lists.{true_is_not_false}
use Rattle.plain_laws.proofs.Alls.{contains_cases, contains_first, contains_later, contains_nothing}
use Rattle.plain_laws.proofs.Places.{get_other, get_set_same, length_set}
use Rattle.model_laws.proofs.Texts.{text_is_same}
use Rattle.std.proofs.lemmas.Option.{none-some, same_Some}

abbrev pub serials_of : Root → List ℕ
serials_of root = map (λ item. item.serial) root.seqs

abbrev pub serials_at : List Root → List ℕ
serials_at roots = flat_map serials_of roots

module _ (key : Root → List ℕ) (n : ℕ) where
  -- how often the number is a serial
  abbrev count : List Root → ℕ
  count roots = times n (serials_at roots)

  count_more : (r : Root) (rs : List Root) → count (r ∷ rs) ≡ times n (serials_of r) + count rs
  count_more r rs = times_append n (serials_of r) (serials_at rs)

  dropped_fewer : (k : List ℕ) (rs : List Root) → count (drop_key key k rs) ≤ count rs
  dropped_fewer k [] = omega arith
  dropped_fewer k (r ∷ rs) = by (same_text (key r) k) (dropped_fewer k rs)
    where
      by : (b : Bool) → count (drop_key key k rs) ≤ count rs
          → count (if not b then r ∷ drop_key key k rs else drop_key key k rs) ≤ count (r ∷ rs)
      by true h = omega (arith, h, count_more r rs)
      by false h = omega (arith, h, count_more r rs, count_more r (drop_key key k rs))

  -- without the roots of a key there are fewer, by those of a root of that key
  one_fewer : (k : List ℕ) (rs : List Root) (q : Root) → Contains rs q → same_text (key q) k ≡ true
      → times n (serials_of q) + count (drop_key key k rs) ≤ count rs
  one_fewer k [] q c same = absurd (contains_nothing q c)
  one_fewer k (r ∷ rs) q c same = by (same_text (key r) k) refl (contains_cases r rs q c) (λ d. one_fewer k rs q d same)
    where
      Goal : Bool → Type 0
      Goal b = times n (serials_of q) + count (if not b then r ∷ drop_key key k rs else drop_key key k rs) ≤ count
          (r ∷ rs)

      by : (b : Bool) → same_text (key r) k ≡ b → (r ≡ q) ⊎ Contains rs q
          → (Contains rs q → times n (serials_of q) + count (drop_key key k rs) ≤ count rs)
          → times n (serials_of q) + count (if not b then r ∷ drop_key key k rs else drop_key key k rs) ≤ count (r ∷ rs)
      by true is (inl e) later =
          let same_times : times n (serials_of r) ≡ times n (serials_of q) =
          ap (λ (z : Root). times n (serials_of z)) e in
          omega (arith, same_times, dropped_fewer k rs, count_more r rs)
      by true is (inr d) later = omega (arith, later d, count_more r rs)
      by false is (inl e) later = absurd (true_is_not_false
          (sym same ∙ ap (λ (z : Root). same_text (key z) k) (sym e) ∙ is))
      by false is (inr d) later = omega (arith, later d, count_more r rs, count_more r (drop_key key k rs))

  -- a root of another key is left
  left : (k : List ℕ) (rs : List Root) (q : Root) → Contains rs q → same_text (key q) k ≡ false
      → Contains (drop_key key k rs) q
  left k [] q c other = c
  left k (r ∷ rs) q c other = by (same_text (key r) k) refl (contains_cases r rs q c) (λ d. left k rs q d other)
    where
      by : (b : Bool) → same_text (key r) k ≡ b → (r ≡ q) ⊎ Contains rs q
          → (Contains rs q → Contains (drop_key key k rs) q)
          → Contains (if not b then r ∷ drop_key key k rs else drop_key key k rs) q
      by true is (inl e) later = absurd (true_is_not_false (sym is ∙ ap (λ (z : Root). same_text (key z) k) e ∙ other))
      by true is (inr d) later = later d
      by false is (inl e) later = subst (λ (z : Root). Contains (r ∷ drop_key key k rs) z) e
          (contains_first r (drop_key key k rs))
      by false is (inr d) later = contains_later r (drop_key key k rs) q (later d)

  still_now : (k : List ℕ) (now rest : List Root) → AllByRecursion (λ r. is_below k (key r) ≡ true) rest
      → AllByRecursion (HasNoneOrNow key now) rest → AllByRecursion (HasNoneOrNow key (drop_key key k now)) rest
  still_now k now [] above all = tt
  still_now k now (r ∷ rest) above all = (by all.0, still_now k now rest above.1 all.1)
    where
      by : (r.seqs ≡ []) ⊎ ((other : Root) × IsNow key now r other) → (r.seqs ≡ [])
          ⊎ ((other : Root) × IsNow key (drop_key key k now) r other)
      by (inl none) = inl none
      by (inr its) =
          let differs : same_text (key its.0) k ≡ false =
          subst (λ (j : List ℕ). same_text j k ≡ false) (sym its.1.same_key)
          (differs_back k (key r) (below_differs k (key r) above.0)) in
          inr (
            its.0,
            record {
              there = left k now its.0 its.1.there differs;
              same_key =
                  its.1.same_key;
              same_dependents = its.1.same_dependents;
            },
          )

  -- roots with ascending keys and dependents that stand now have no more of a serial
  pub no_more : (roots now : List Root) → ascend (map key roots) ≡ true → AllByRecursion (HasNoneOrNow key now) roots
      → count roots ≤ count now
  no_more [] now up all = omega arith
  no_more (r ∷ rest) now up all =
      by all.0 (no_more rest now (tail_ascends key r rest up) all.1)
      (no_more rest (drop_key key (key r) now) (tail_ascends key r rest up)
      (still_now (key r) now rest (all_above key r rest up) all.1))
    where
      by : (r.seqs ≡ []) ⊎ ((other : Root) × IsNow key now r other) → count rest ≤ count now
          → count rest ≤ count (drop_key key (key r) now) → count (r ∷ rest) ≤ count now
      by (inl none) h other_h =
          let zero_times : times n (serials_of r) ≡ 0 = ap (λ items. times n (map (λ item. item.serial) items)) none in
          omega (arith, zero_times, h, count_more r rest)
      by (inr its) h other_h =
          let same_times : times n (serials_of r) ≡ times n (serials_of its.0) =
          ap (λ items. times n (map (λ item. item.serial) items)) its.1.same_dependents in
          let one = one_fewer (key r) now its.0 its.1.there
          (subst (λ (j : List ℕ). same_text j (key r) ≡ true) (sym its.1.same_key) (text_is_same (key r))) in
          omega (arith, same_times, one, other_h, count_more r rest)

-- what stood at a place that was written
was_there : {X : Type 0} (xs : List X) (r : ℕ) (a y : X) → slice_get (slice_set xs r a) r ≡ Some y → (x : X)
    × (slice_get xs r ≡ Some x)
was_there [] r a y e = absurd (none-some y e)
was_there (x ∷ xs) zero a y e = (x, refl)
was_there (x ∷ xs) (suc r) a y e = was_there xs r a y e

module _ (def : DedbDef) (dedb : Dedb) (anchor : ℕ) (roots : List Root) (good : IsDedbOf def dedb)
    (fits : FitsChange def dedb anchor roots) where
  -- what stands at an anchor behind the change
  is_written : (at : ℕ) (y : List Root) → slice_get (slice_set dedb.anchors anchor roots) at ≡ Some y → at ≡ anchor
      → (x : List Root) × (slice_get dedb.anchors anchor ≡ Some x) × (roots ≡ y)
  is_written at y e same =
      let here : slice_get (slice_set dedb.anchors anchor roots) anchor ≡ Some y =
      subst (λ (k : ℕ). slice_get (slice_set dedb.anchors anchor roots) k ≡ Some y) same e in
      let was = was_there dedb.anchors anchor roots y here in
      (was.0, was.1, same_Some roots y (sym (get_set_same dedb.anchors anchor roots was.0 was.1) ∙ here))

  anchors_changed : (area : Area) (ends : AreaEnds) (at : ℕ) (y : List Root)
      → Contains (areas_from 0 0 0 def.areas) area → slice_get dedb.areas area.number ≡ Some ends
      → has_anchor area 0 at ≡ true
      → slice_get (slice_set dedb.anchors anchor roots) at ≡ Some y → is_anchor def at ends y ≡ true
  anchors_changed area ends at y there ends_at has e = elim (cases_eq at anchor) [
    | inl same ↦
        let w = is_written at y e same in
        subst (λ (rs : List Root). is_anchor def at ends rs ≡ true) w.2
        (subst (λ (k : ℕ). is_anchor def k ends roots ≡ true) (sym same)
        (fits.in_shape area ends there ends_at (subst (λ (k : ℕ). has_anchor area 0 k ≡ true) same has)))
    | inr other ↦ good.each_anchor area ends at y there ends_at has
        (sym (get_other dedb.anchors anchor at roots other) ∙ e)
  ]

  fewer_at : (n at : ℕ) (y : List Root) → slice_get (slice_set dedb.anchors anchor roots) at ≡ Some y → (x : List Root)
      × (slice_get dedb.anchors at ≡ Some x) × (times n (serials_at y) ≤ times n (serials_at x))
  fewer_at n at y e = elim (cases_eq at anchor) [
    | inl same ↦
        let w = is_written at y e same in
        let now : slice_get dedb.anchors at ≡ Some w.0 =
        subst (λ (k : ℕ). slice_get dedb.anchors k ≡ Some w.0) (sym same) w.1 in
        let le = no_more (root_key def.segments) n roots w.0 fits.keys (fits.dependents w.0 w.1) in
        (w.0, now, subst (λ (rs : List Root). times n (serials_at rs) ≤ times n (serials_at w.0)) w.2 le)
    | inr other ↦ (y, sym (get_other dedb.anchors anchor at roots other) ∙ e, le_itself (times n (serials_at y)))
  ]
    where
      le_itself : (m : ℕ) → m ≤ m
      le_itself m = omega arith

  le_trans : (a b c : ℕ) → a ≤ b → b ≤ c → a ≤ c
  le_trans a b c ab bc = omega (arith, ab, bc)

  pub changed_good : IsDedbOf def (with_anchor anchor roots dedb)
  changed_good = record {
    anchors = length_set dedb.anchors anchor roots ∙ good.anchors;
    areas = good.areas;
    each_anchor = anchors_changed;
    serials = λ area there. distinct_few (serials_in area (with_anchor anchor roots dedb)) (λ n.
        le_trans (times n (serials_in area (with_anchor anchor roots dedb))) (times n (serials_in area dedb)) 1
        (part_fewer serials_at n (anchors_in area.def) area.first_anchor dedb.anchors
        (slice_set dedb.anchors anchor roots) (fewer_at n))
        (few_times (serials_in area dedb) (good.serials area there) n));
  }
