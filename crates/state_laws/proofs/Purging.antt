-- A Purge: older serials leave their roots, and all else stays.
use Rattle.std.proofs.Common.{◌≡◌, ℕ, zero, suc, ◌+◌, ◌-◌, ◌^◌, ◌≤◌, List, [], ◌∷◌, ◌++◌, map, take, drop, min, Option, Some, None, refl, sym, ◌∙◌, ap, subst, Bool, true, false, ◌&&◌, ◌||◌, ◌==◌, nat_le, nat_lt, slice_get, slice_set, arith, ◌⊎◌, inl, inr}
use Rattle.std.specs.Prelude.{Contains, if◌then◌else◌, filter, flat_map, option_map}
use Rattle.std.specs.List.{AllZip, IsDistinct, list_all}
use Rattle.std.specs.Option.{option_map_or}
use Rattle.std.proofs.lemmas.List.Elements.{filter-append}
use Rattle.fp_model.specs.declared.database.AreaEnds.{AreaEnds}
use Rattle.fp_model.specs.declared.database.Db.{Db}
use Rattle.fp_model.specs.declared.database.Dedb.{Dedb}
use Rattle.fp_model.specs.declared.database.Root.{Root}
use Rattle.fp_model.specs.declared.database.SeqItem.{SeqItem}
use Rattle.fp_model.specs.declared.definitions.DedbDef.{DedbDef}
use Rattle.fp_model.specs.declared.definitions.Defs.{Defs}
use Rattle.fp_model.specs.declared.definitions.SegDef.{SegDef}
use Rattle.fp_model.specs.Commit.{area_of_set, ends_at, in_anchors, kept_from, purged, purged_area, with_dedb}
use Rattle.fp_model.specs.Exits.{anchor_of}
use Rattle.fp_model.specs.Order.{child_types, root_key, sequential_type}
use Rattle.fp_model.specs.Shape.{IsDbOf, IsDedbOf, are_ends, are_newest_first, are_rows, has_length, have_lengths, is_anchor, is_root, seen_as, serials_in}
use Rattle.fp_model.specs.State.{Area, anchors_in, areas_from, areas_of, ascend, first_area_set, has_anchor}
use Rattle.state_laws.proofs.Areas.{AreApart, alone, alone_there, database, lies_in, lies_outside, placed, same_or_apart}
use Rattle.state_laws.proofs.Lists.{distinct_filter, each_at}
use Rattle.state_laws.proofs.Ranges.{get_inside, length_changed, part_mapped, part_same}
use Rattle.std.proofs.lemmas.Bool.{and_from}
use Rattle.plain_laws.proofs.Alls.{each_set, get_contains}
use Rattle.plain_laws.proofs.Truths.{first_of_both, second_of_both}
use Rattle.plain_laws.proofs.Places.{get_other, get_outside, get_set_same, set_twice}
use Rattle.plain_laws.proofs.Numbers.{is_le, le_is, lt_is, lt_true}
use Rattle.std.proofs.lemmas.Option.{none-some, same_Some}

-- ---- the ends

-- ends as numbers
pub record AreEnds (capacity : ℕ) (ends : AreaEnds) : Type 0 where
  pub some : 1 ≤ ends.begin
  pub order : ends.begin ≤ ends.end
  pub room : ends.end - ends.begin ≤ capacity
  pub last : ends.end ≤ 2 ^ 62
  pub part : (nat_lt 0 capacity || ends.end == 1) ≡ true

pub ends_are : (capacity : ℕ) (ends : AreaEnds) → are_ends capacity ends ≡ true → AreEnds capacity ends
ends_are capacity ends e =
    let a = nat_le 1 ends.begin in
    let b = nat_le ends.begin ends.end in
    let c = nat_le (ends.end - ends.begin) capacity in
    let d = nat_le ends.end (2 ^ 62) in
    let f : Bool = nat_lt 0 capacity || ends.end == 1 in
    let abcd = first_of_both (((a && b) && c) && d) f e in
    let abc = first_of_both ((a && b) && c) d abcd in
    let ab = first_of_both (a && b) c abc in
    record {
      some = le_is 1 ends.begin (first_of_both a b ab);
      order = le_is ends.begin ends.end (second_of_both a b ab);
      room = le_is (ends.end - ends.begin) capacity (second_of_both (a && b) c abc);
      last = le_is ends.end (2 ^ 62) (second_of_both ((a && b) && c) d abcd);
      part = second_of_both (((a && b) && c) && d) f e;
    }

pub are_the_ends : (capacity : ℕ) (ends : AreaEnds) → AreEnds capacity ends → are_ends capacity ends ≡ true
are_the_ends capacity ends k =
    let a = nat_le 1 ends.begin in
    let b = nat_le ends.begin ends.end in
    let c = nat_le (ends.end - ends.begin) capacity in
    let d = nat_le ends.end (2 ^ 62) in
    let f : Bool = nat_lt 0 capacity || ends.end == 1 in
    and_from (((a && b) && c) && d) f
    (and_from ((a && b) && c) d
    (and_from (a && b) c (and_from a b (is_le 1 ends.begin k.some) (is_le ends.begin ends.end k.order))
    (is_le (ends.end - ends.begin) capacity k.room))
    (is_le ends.end (2 ^ 62) k.last))
    k.part

-- where begin moves up
abbrev pub moved_up : ℕ → AreaEnds → AreaEnds
moved_up n ends = record ends { begin = min ends.end (ends.begin + n) }

moved_good : (capacity n : ℕ) (ends : AreaEnds) → are_ends capacity ends ≡ true
    → are_ends capacity (moved_up n ends) ≡ true
moved_good capacity n ends e =
    let k = ends_are capacity ends e in
    are_the_ends capacity (moved_up n ends) (record {
      some = omega (arith, k.some, k.order);
      order = omega arith;
      room = omega (arith, k.order, k.room);
      last = k.last;
      part = k.part;
    })

-- ---- roots

-- dependents stay newest first below a later end
pub later_end : (begin end end2 : ℕ) (items : List SeqItem) → end ≤ end2 → are_newest_first begin end items ≡ true
    → are_newest_first begin end2 items ≡ true
later_end begin end end2 [] le e = refl
later_end begin end end2 (item ∷ items) le e =
    let front = first_of_both (nat_le begin item.serial && nat_lt item.serial end)
    (are_newest_first begin item.serial items) e in
    let rest = second_of_both (nat_le begin item.serial && nat_lt item.serial end)
    (are_newest_first begin item.serial items) e in
    let less = lt_is item.serial end (second_of_both (nat_le begin item.serial) (nat_lt item.serial end) front) in
    and_from (nat_le begin item.serial && nat_lt item.serial end2) (are_newest_first begin item.serial items)
    (and_from (nat_le begin item.serial) (nat_lt item.serial end2)
    (first_of_both (nat_le begin item.serial) (nat_lt item.serial end) front)
    (lt_true item.serial end2 (omega (arith, less, le)))) rest

module _ (begin : ℕ) where
  abbrev is_kept : SeqItem → Bool
  is_kept item = nat_le begin item.serial

  kept_newest : (old end : ℕ) (items : List SeqItem) → are_newest_first old end items ≡ true
      → are_newest_first begin end (filter is_kept items) ≡ true
  kept_newest old end [] e = refl
  kept_newest old end (item ∷ items) e = by (nat_le begin item.serial) refl
      (kept_newest old item.serial items (second_of_both (nat_le old item.serial && nat_lt item.serial end)
      (are_newest_first old item.serial items) e))
    where
      less : nat_lt item.serial end ≡ true
      less = second_of_both (nat_le old item.serial) (nat_lt item.serial end)
          (first_of_both (nat_le old item.serial && nat_lt item.serial end) (are_newest_first old item.serial items) e)

      by : (b : Bool) → nat_le begin item.serial ≡ b → are_newest_first begin item.serial (filter is_kept items) ≡ true
          → are_newest_first begin end (if b then item ∷ filter is_kept items else filter is_kept items) ≡ true
      by true is rest = and_from (nat_le begin item.serial && nat_lt item.serial end)
          (are_newest_first begin item.serial (filter is_kept items))
          (and_from (nat_le begin item.serial) (nat_lt item.serial end) is less) rest
      by false is rest = later_end begin item.serial end (filter is_kept items)
          (let h = lt_is item.serial end less in omega (arith, h)) rest

  kept_all : {X : Type 0} (p q : X → Bool) (xs : List X) → list_all p xs ≡ true → list_all p (filter q xs) ≡ true
  kept_all p q [] e = refl
  kept_all {X} p q (x ∷ xs) e = by (q x) (kept_all p q xs (second_of_both (p x) (list_all p xs) e))
    where
      by : (b : Bool) → list_all p (filter q xs) ≡ true → list_all p (if b then x ∷ filter q xs else filter q xs) ≡ true
      by true rest = and_from (p x) (list_all p (filter q xs)) (first_of_both (p x) (list_all p xs) e) rest
      by false rest = rest

  kept_root : (types : List SegDef) (ends : AreaEnds) (root : Root) → is_root types ends root ≡ true
      → is_root types (record ends { begin = begin }) (kept_from begin root) ≡ true
  kept_root types ends root e =
      let a = has_length types 0 root.bytes in
      let b = are_rows types (child_types types 0) (map (map (seen_as types)) root.children) in
      let c = are_newest_first ends.begin ends.end root.seqs in
      let d = have_lengths types root.seqs in
      let abc = first_of_both ((a && b) && c) d e in
      and_from ((a && b) && are_newest_first begin ends.end (filter is_kept root.seqs))
      (have_lengths types (filter is_kept root.seqs))
      (and_from (a && b) (are_newest_first begin ends.end (filter is_kept root.seqs)) (first_of_both (a && b) c abc)
      (kept_newest ends.begin ends.end root.seqs (second_of_both (a && b) c abc)))
      (kept_all (λ item. option_map_or (λ type. has_length types type item.bytes) (sequential_type types) false) is_kept
      root.seqs (second_of_both ((a && b) && c) d e))

  kept_roots : (types : List SegDef) (ends : AreaEnds) (roots : List Root) → list_all (is_root types ends) roots ≡ true
      → list_all (is_root types (record ends { begin = begin })) (map (kept_from begin) roots) ≡ true
  kept_roots types ends [] e = refl
  kept_roots types ends (root ∷ roots) e =
      and_from (is_root types (record ends { begin = begin }) (kept_from begin root))
      (list_all (is_root types (record ends { begin = begin })) (map (kept_from begin) roots))
      (kept_root types ends root (first_of_both (is_root types ends root) (list_all (is_root types ends) roots) e))
      (kept_roots types ends roots (second_of_both (is_root types ends root) (list_all (is_root types ends) roots) e))

  same_keys : (types : List SegDef) (roots : List Root)
      → map (root_key types) (map (kept_from begin) roots) ≡ map (root_key types) roots
  same_keys types [] = refl
  same_keys types (root ∷ roots) = ap (λ ks. root_key types root ∷ ks) (same_keys types roots)

  same_sent : (def : DedbDef) (anchor : ℕ) (roots : List Root)
      → list_all (λ root. anchor_of def (root_key def.segments root) == anchor) (map (kept_from begin) roots) ≡ list_all
      (λ root. anchor_of def (root_key def.segments root) == anchor) roots
  same_sent def anchor [] = refl
  same_sent def anchor (root ∷ roots) = ap (λ b. anchor_of def (root_key def.segments root) == anchor && b)
      (same_sent def anchor roots)

  kept_anchor : (def : DedbDef) (anchor : ℕ) (ends : AreaEnds) (roots : List Root)
      → is_anchor def anchor ends roots ≡ true → is_anchor def anchor (record ends { begin = begin })
      (map (kept_from begin) roots) ≡ true
  kept_anchor def anchor ends roots e =
      let a = list_all (is_root def.segments ends) roots in
      let b = ascend (map (root_key def.segments) roots) in
      let c = list_all (λ root. anchor_of def (root_key def.segments root) == anchor) roots in
      let ab = first_of_both (a && b) c e in
      let kept : List Root = map (kept_from begin) roots in
      let a2 = list_all (is_root def.segments (record ends { begin = begin })) kept in
      let b2 = ascend (map (root_key def.segments) kept) in
      let c2 = list_all (λ root. anchor_of def (root_key def.segments root) == anchor) kept in
      and_from (a2 && b2) c2
      (and_from a2 b2 (kept_roots def.segments ends roots (first_of_both a b ab))
      (ap ascend (same_keys def.segments roots) ∙ second_of_both a b ab))
      (same_sent def anchor roots ∙ second_of_both (a && b) c e)

  -- ---- serials

  abbrev serials_of : Root → List ℕ
  serials_of root = map (λ item. item.serial) root.seqs

  abbrev serials_at : List Root → List ℕ
  serials_at roots = flat_map serials_of roots

  kept_serials : (items : List SeqItem) → map (λ item. item.serial) (filter is_kept items) ≡ filter (nat_le begin)
      (map (λ item. item.serial) items)
  kept_serials [] = refl
  kept_serials (item ∷ items) = by (nat_le begin item.serial) (kept_serials items)
    where
      by : (b : Bool) → map (λ i. i.serial) (filter is_kept items) ≡ filter (nat_le begin) (map (λ i. i.serial) items)
          → map (λ i. i.serial) (if b then item ∷ filter is_kept items else filter is_kept items) ≡
          (if b then item.serial ∷ filter (nat_le begin) (map (λ i. i.serial) items) else filter (nat_le begin)
          (map (λ i. i.serial) items))
      by true rest = ap (λ ns. item.serial ∷ ns) rest
      by false rest = rest

  kept_at_roots : (roots : List Root) → serials_at (map (kept_from begin) roots) ≡ filter (nat_le begin)
      (serials_at roots)
  kept_at_roots [] = refl
  kept_at_roots (root ∷ roots) =
      ap (λ ns. ns ++ serials_at (map (kept_from begin) roots)) (kept_serials root.seqs)
      ∙ ap (λ ns. filter (nat_le begin) (serials_of root) ++ ns) (kept_at_roots roots)
      ∙ sym (filter-append (nat_le begin) (serials_of root) (serials_at roots))

  kept_at_anchors : (anchors : List (List Root)) → flat_map serials_at (map (map (kept_from begin)) anchors) ≡ filter
      (nat_le begin) (flat_map serials_at anchors)
  kept_at_anchors [] = refl
  kept_at_anchors (roots ∷ anchors) =
      ap (λ ns. ns ++ flat_map serials_at (map (map (kept_from begin)) anchors)) (kept_at_roots roots)
      ∙ ap (λ ns. filter (nat_le begin) (serials_at roots) ++ ns) (kept_at_anchors anchors)
      ∙ sym (filter-append (nat_le begin) (serials_at roots) (flat_map serials_at anchors))

-- ---- one database

-- the area of a database purged
abbrev pub purged_dedb : Area → ℕ → AreaEnds → Dedb → Dedb
purged_dedb area n ends dedb = record {
  anchors = in_anchors area (map (kept_from (moved_up n ends).begin)) dedb.anchors;
  areas = slice_set dedb.areas area.number (moved_up n ends);
}

mapped_from : {X Y : Type 0} (f : X → Y) (o : Option X) (y : Y) → option_map f o ≡ Some y → (x : X) × (o ≡ Some x)
    × (f x ≡ y)
mapped_from f None y e = absurd (none-some y e)
mapped_from f (Some x) y e = (x, refl, same_Some (f x) y e)

module _ (def : DedbDef) (dedb : Dedb) (good : IsDedbOf def dedb) (area : Area)
    (there : Contains (areas_from 0 0 0 def.areas) area) (n : ℕ) (ends : AreaEnds)
    (at : slice_get dedb.areas area.number ≡ Some ends) where
  begin : ℕ
  begin = (moved_up n ends).begin

  its_def : slice_get def.areas area.number ≡ Some area.def
  its_def = let p = placed 0 0 0 def.areas area there in
      let same : p.place ≡ area.number = omega (arith, p.its_number) in
      subst (λ (k : ℕ). slice_get def.areas k ≡ Some area.def) same p.its_def

  purged_areas : AllZip (λ area ends. are_ends area.capacity ends ≡ true) def.areas (purged_dedb area n ends dedb).areas
  purged_areas = each_set (λ area ends. are_ends area.capacity ends ≡ true) def.areas dedb.areas area.number area.def
      (moved_up n ends) good.areas its_def
      (moved_good area.def.capacity n ends (each_at (λ area ends. are_ends area.capacity ends ≡ true) def.areas
      dedb.areas area.number area.def ends good.areas its_def at))

  anchors_purged : (b : Area) (ends2 : AreaEnds) (anchor : ℕ) (roots : List Root)
      → Contains (areas_from 0 0 0 def.areas) b → slice_get (purged_dedb area n ends dedb).areas b.number ≡ Some ends2
      → has_anchor b 0 anchor ≡ true → slice_get (purged_dedb area n ends dedb).anchors anchor ≡ Some roots
      → is_anchor def anchor ends2 roots ≡ true
  anchors_purged b ends2 anchor roots b_there b_at has is = by (same_or_apart 0 0 0 def.areas area b there b_there)
    where
      by : (area ≡ b) ⊎ AreApart area b → is_anchor def anchor ends2 roots ≡ true
      by (inl same) =
          let here : has_anchor area 0 anchor ≡ true =
          subst (λ (x : Area). has_anchor x 0 anchor ≡ true) (sym same) has in
          let inside = lies_in area 0 anchor here in
          let old = mapped_from (map (kept_from (moved_up n ends).begin)) (slice_get dedb.anchors anchor) roots
          (sym (get_inside area.first_anchor (anchors_in area.def) (area.first_anchor + anchors_in area.def)
          (map (kept_from (moved_up n ends).begin)) dedb.anchors anchor refl inside.low inside.high) ∙ is) in
          let new : slice_get (slice_set dedb.areas area.number (moved_up n ends)) area.number ≡ Some ends2 =
          subst (λ (x : Area). slice_get (slice_set dedb.areas area.number (moved_up n ends)) x.number ≡ Some ends2)
          (sym same) b_at in
          let ends_is : moved_up n ends ≡ ends2 = same_Some (moved_up n ends) ends2
          (sym (get_set_same dedb.areas area.number (moved_up n ends) ends at) ∙ new) in
          subst (λ (x : AreaEnds). is_anchor def anchor x roots ≡ true) ends_is
          (subst (λ (rs : List Root). is_anchor def anchor (moved_up n ends) rs ≡ true) old.2
          (kept_anchor (moved_up n ends).begin def anchor ends old.0
          (good.each_anchor area ends anchor old.0 there at here old.1)))
      by (inr apart) =
          let outside = lies_outside area b anchor apart (lies_in b 0 anchor has) in
          good.each_anchor b ends2 anchor roots b_there
          (sym (get_other dedb.areas area.number b.number (moved_up n ends) (λ e. apart.numbers (sym e))) ∙ b_at)
          has
          (sym (get_outside area.first_anchor (anchors_in area.def) (area.first_anchor + anchors_in area.def)
          (map (kept_from (moved_up n ends).begin)) dedb.anchors anchor refl outside) ∙ is)

  serials_purged : (b : Area) → Contains (areas_from 0 0 0 def.areas) b
      → IsDistinct ◌==◌ (serials_in b (purged_dedb area n ends dedb))
  serials_purged b b_there = by (same_or_apart 0 0 0 def.areas area b there b_there)
    where
      lowest : ℕ
      lowest = (moved_up n ends).begin

      change : List Root → List Root
      change = map (kept_from (moved_up n ends).begin)

      by : (area ≡ b) ⊎ AreApart area b → IsDistinct ◌==◌ (serials_in b (purged_dedb area n ends dedb))
      by (inl same) = subst (λ (x : Area). IsDistinct ◌==◌ (serials_in x (purged_dedb area n ends dedb))) same (
          let part = part_mapped (map (kept_from (moved_up n ends).begin)) (anchors_in area.def) area.first_anchor
          dedb.anchors (purged_dedb area n ends dedb).anchors
          (λ k low high. get_inside area.first_anchor (anchors_in area.def) (area.first_anchor + anchors_in area.def)
          (map (kept_from (moved_up n ends).begin)) dedb.anchors k refl low high) in
          let serials : serials_in area (purged_dedb area n ends dedb) ≡ filter (nat_le (moved_up n ends).begin)
          (serials_in area dedb) =
          ap (λ (anchors : List (List Root)). flat_map (serials_at (moved_up n ends).begin) anchors) part ∙
          kept_at_anchors (moved_up n ends).begin (take (anchors_in area.def) (drop area.first_anchor dedb.anchors))
          in
          subst (λ (ns : List ℕ). IsDistinct ◌==◌ ns) (sym serials)
          (distinct_filter ◌==◌ (nat_le (moved_up n ends).begin) (serials_in area dedb) (good.serials area there)))
      by (inr apart) =
          let part = part_same (anchors_in b.def) b.first_anchor dedb.anchors (purged_dedb area n ends dedb).anchors
          (λ k low high. get_outside area.first_anchor (anchors_in area.def) (area.first_anchor + anchors_in area.def)
          (map (kept_from (moved_up n ends).begin)) dedb.anchors k refl
          (lies_outside area b k apart (record { low = low; high = high }))) in
          subst (λ (anchors : List (List Root)). IsDistinct ◌==◌
          (flat_map (serials_at (moved_up n ends).begin) anchors)) (sym part) (good.serials b b_there)

  pub purged_dedb_good : IsDedbOf def (purged_dedb area n ends dedb)
  purged_dedb_good = record {
    anchors = length_changed area.first_anchor (anchors_in area.def) (area.first_anchor + anchors_in area.def)
        (map (kept_from (moved_up n ends).begin)) dedb.anchors refl ∙ good.anchors;
    areas = purged_areas;
    each_anchor = anchors_purged;
    serials = serials_purged;
  }

-- ---- the state

-- the partner of an element
pub partner : {A B : Type 0} (R : A → B → Type 0) (xs : List A) (ys : List B) (n : ℕ) (x : A) → AllZip R xs ys
    → slice_get xs n ≡ Some x → (y : B) × (slice_get ys n ≡ Some y)
partner R [] ys n x all at = absurd (none-some x at)
partner R (a ∷ xs) [] n x all at = absurd all
partner R (a ∷ xs) (b ∷ ys) zero x all at = (b, refl)
partner R (a ∷ xs) (b ∷ ys) (suc n) x all at = partner R xs ys n x all.1 at

-- a data entry database changed twice is changed once
pub dedb_changed : (number : ℕ) (change : Dedb → Dedb) (db : Db) (d : Dedb) → slice_get db.dedbs number ≡ Some d
    → (with_dedb number change db).dedbs ≡ slice_set db.dedbs number (change d)
dedb_changed number change db d at = rw at refl

module _ (defs : Defs) (db : Db) (good : IsDbOf defs db) where
  area_purged : (area : Area) (n : ℕ) → Contains (areas_of defs) area → IsDbOf defs (purged_area area n db)
  area_purged area n c =
      let h = database 0 defs.dedbs area c in
      let same : h.place ≡ area.dedb = omega (arith, h.its_dedb) in
      let def_at : slice_get defs.dedbs area.dedb ≡ Some h.def =
      subst (λ (k : ℕ). slice_get defs.dedbs k ≡ Some h.def) same h.its_def in
      let d = partner IsDedbOf defs.dedbs db.dedbs area.dedb h.def good.dedbs def_at in
      let d_good = each_at IsDedbOf defs.dedbs db.dedbs area.dedb h.def d.0 good.dedbs def_at d.1 in
      let alone_is = alone_there area.dedb 0 0 h.def.areas area h.there in
      let p = placed 0 0 0 h.def.areas (alone area) alone_is in
      let place : p.place ≡ area.number = omega (arith, p.its_number) in
      let area_at : slice_get h.def.areas area.number ≡ Some area.def =
      subst (λ (k : ℕ). slice_get h.def.areas k ≡ Some area.def) place p.its_def in
      let e = partner (λ area ends. are_ends area.capacity ends ≡ true) h.def.areas d.0.areas area.number area.def
      d_good.areas area_at in
      let ends_is : ends_at db area ≡ e.0 = rw d.1 (rw e.1 refl) in
      let one = purged_dedb_good h.def d.0 d_good (alone area) alone_is n e.0 e.1 in
      record {
        msdbs = good.msdbs;
        dedbs = subst (AllZip IsDedbOf defs.dedbs) (sym (changed_to area n d.0 e.0 d.1 ends_is))
            (each_set IsDedbOf defs.dedbs db.dedbs area.dedb h.def (purged_dedb (alone area) n e.0 d.0) good.dedbs
            def_at one);
      }
    where
      changed_to : (area : Area) (n : ℕ) (d : Dedb) (ends : AreaEnds) → slice_get db.dedbs area.dedb ≡ Some d
          → ends_at db area ≡ ends → (purged_area area n db).dedbs ≡ slice_set db.dedbs area.dedb
          (purged_dedb (alone area) n ends d)
      changed_to area n d ends at is =
          let begin : ℕ = min (ends_at db area).end ((ends_at db area).begin + n) in
          let first : Dedb → Dedb = λ x. record x { anchors = in_anchors area (map (kept_from begin)) x.anchors } in
          let second : Dedb → Dedb = λ x. record x {
            areas =
                slice_set x.areas area.number (moved_up n (ends_at db area));
          } in
          let one = dedb_changed area.dedb first db d at in
          let there : slice_get (with_dedb area.dedb first db).dedbs area.dedb ≡ Some (first d) =
          ap (λ (ds : List Dedb). slice_get ds area.dedb) one ∙ get_set_same db.dedbs area.dedb (first d) d at in
          dedb_changed area.dedb second (with_dedb area.dedb first db) (first d) there
          ∙ ap (λ (ds : List Dedb). slice_set ds area.dedb (second (first d))) one
          ∙ set_twice db.dedbs area.dedb (first d) (second (first d))
          ∙ ap (λ (x : AreaEnds). slice_set db.dedbs area.dedb (purged_dedb (alone area) n x d)) is

  pub purge_good : (set n : ℕ) (next : Db) → purged defs set n db ≡ Some next → IsDbOf defs next
  unfolding purged
  purge_good set n next e = by (area_of_set defs set) refl e
    where
      in_order : (b : Bool) (area : Area) → (if b then None else slice_get (areas_of defs) (set - first_area_set)) ≡
          Some area → Contains (areas_of defs) area
      in_order true area at = absurd (none-some area at)
      in_order false area at = get_contains (areas_of defs) (set - first_area_set) area at

      either : (b : Bool) (area : Area) → Contains (areas_of defs) area
          → (if b then Some (purged_area area n db) else None) ≡ Some next → IsDbOf defs next
      either true area c e = subst (IsDbOf defs) (same_Some (purged_area area n db) next e) (area_purged area n c)
      either false area c e = absurd (none-some next e)

      by : (o : Option Area) → area_of_set defs set ≡ o
          → option_map_or (λ area. if nat_lt 0 area.def.capacity then Some (purged_area area n db) else None) o None ≡
          Some next → IsDbOf defs next
      by None is e = absurd (none-some next e)
      by (Some area) is e = either (nat_lt 0 area.def.capacity) area (in_order (nat_lt set first_area_set) area is) e
