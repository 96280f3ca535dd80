-- A Purge: dependents that are dropped from behind, and what it needs of a database and makes of the state.
use Rattle.std.proofs.Common.{◌≡◌, ℕ, suc, ◌+◌, ◌-◌, ◌<◌, ◌≤◌, List, [], ◌∷◌, ◌++◌, map, length, Option, Some, None, refl, sym, ◌∙◌, ap, subst, Bool, true, false, ◌&&◌, ◌==◌, nat_le, nat_lt, slice_get, slice_set, arith}
use Rattle.std.specs.Prelude.{Contains, MatchOption, filter, if◌then◌else◌}
use Rattle.std.specs.List.{list_all}
use Rattle.std.specs.Option.{option_map_or}
use Rattle.std.proofs.lemmas.Bool.Decides.{nat_tests}
use Rattle.fp_model.specs.Commit.{area_of_set, ends_at, in_anchors, kept_from, purged, purged_area, with_dedb}
use Rattle.fp_model.specs.Exits.{anchor_of}
use Rattle.fp_model.specs.Order.{child_types, root_key}
use Rattle.fp_model.specs.Shape.{IsDedbOf, are_newest_first, are_rows, has_length, have_lengths, is_anchor, is_root, seen_as}
use Rattle.fp_model.specs.State.{Area, anchors_in, anchor_count, areas_of, ascend, first_area_set, has_anchor}
use Rattle.fp_model.specs.WellFormed.{AreDefs}
use Rattle.fp_model.specs.declared.database.AreaEnds.{AreaEnds}
use Rattle.fp_model.specs.declared.database.Db.{Db}
use Rattle.fp_model.specs.declared.database.Dedb.{Dedb}
use Rattle.fp_model.specs.declared.database.Msdb.{Msdb}
use Rattle.fp_model.specs.declared.database.Root.{Root}
use Rattle.fp_model.specs.declared.database.SeqItem.{SeqItem}
use Rattle.fp_model.specs.declared.definitions.Defs.{Defs}
use Rattle.fp_model.specs.declared.definitions.SegDef.{SegDef}
use Rattle.past_anchors.specs.Databases.{AreDedbsOf, state_of}
use Rattle.past_anchors.specs.inside.Purges.{AllFall, AreFalling, FallFrom, IsAreaIn, ends_below, moved_up, with_purged}
use Rattle.past_anchors.proofs.Inserting.{beside, whole}
use Rattle.state_laws.proofs.Areas.{alone}
use Rattle.state_laws.proofs.Lists.{true_is_not_false}
use Rattle.state_laws.proofs.Purging.{dedb_changed, purge_good}
use Rattle.state_laws.proofs.Stands.{AtArea, at_area, ends_within}
use Rattle.std.proofs.lemmas.Bool.{and_from}
use Rattle.plain_laws.proofs.Truths.{first_of_both, second_of_both}
use Rattle.std.proofs.lemmas.Option.{none-some, same_Some, slice_get_within}
use Rattle.plain_laws.proofs.Alls.{get_contains}
use Rattle.plain_laws.proofs.Places.{get_set_same, last_at, set_twice}
use Rattle.plain_laws.proofs.Numbers.{is_le, lt_is, lt_true}
use Rattle.plain_laws.proofs.Lists.{length_snoc}

-- ---- dropped from behind

not_less : (m n : ℕ) → nat_lt m n ≡ false → n ≤ m
not_less m n e = grind (arith, nat_tests)

less_is_not_le : (m n : ℕ) → nat_lt m n ≡ true → nat_le n m ≡ false
less_is_not_le m n e = grind (arith, nat_tests)

front_falls : (begin end : ℕ) (xs : List SeqItem) (x : SeqItem) → are_newest_first begin end (xs ++ x ∷ []) ≡ true
    → are_newest_first begin end xs ≡ true
front_falls begin end [] x e = refl
front_falls begin end (y ∷ xs) x e =
    let here : Bool = nat_le begin y.serial && nat_lt y.serial end in
    and_from here (are_newest_first begin y.serial xs)
    (first_of_both here (are_newest_first begin y.serial (xs ++ x ∷ [])) e)
    (front_falls begin y.serial xs x (second_of_both here (are_newest_first begin y.serial (xs ++ x ∷ [])) e))

last_below : (begin : ℕ) (xs : List SeqItem) (x : SeqItem) → ends_below begin (xs ++ x ∷ []) ≡ nat_lt x.serial begin
last_below begin xs x =
    let at : length (xs ++ x ∷ []) - 1 ≡ length xs = omega (arith, length_snoc xs x) in
    ap (λ (k : ℕ). option_map_or (λ (item : SeqItem). nat_lt item.serial begin) (slice_get (xs ++ x ∷ []) k) false) at
    ∙ ap (λ o. option_map_or (λ (item : SeqItem). nat_lt item.serial begin) o false) (last_at xs x)

not_kept : (begin : ℕ) (xs : List SeqItem) (x : SeqItem) → nat_le begin x.serial ≡ false
    → filter (λ item. nat_le begin item.serial) (xs ++ x ∷ []) ≡ filter (λ item. nat_le begin item.serial) xs
not_kept begin [] x e = rw e refl
not_kept begin (y ∷ xs) x e = by (nat_le begin y.serial) (not_kept begin xs x e)
  where
    by : (b : Bool)
        → filter (λ item. nat_le begin item.serial) (xs ++ x ∷ []) ≡ filter (λ item. nat_le begin item.serial) xs
        → (if b then y ∷ filter (λ item. nat_le begin item.serial) (xs ++ x ∷ [])
        else filter (λ item. nat_le begin item.serial) (xs ++ x ∷ []))
        ≡ (if b then y ∷ filter (λ item. nat_le begin item.serial) xs
        else filter (λ item. nat_le begin item.serial) xs)
    by true later = ap (λ (zs : List SeqItem). y ∷ zs) later
    by false later = later

-- what a pop took away, where the last is older
module _ (begin : ℕ) (r : Option SeqItem) (old new : List SeqItem)
    (gone : MatchOption r ((old ≡ []) × (new ≡ [])) (λ last. old ≡ new ++ last ∷ []))
    (older : ends_below begin old ≡ true) where
  pub popped_kept : filter (λ item. nat_le begin item.serial) new ≡ filter (λ item. nat_le begin item.serial) old
  popped_kept = by r gone
    where
      by : (r : Option SeqItem) → MatchOption r ((old ≡ []) × (new ≡ [])) (λ last. old ≡ new ++ last ∷ [])
          → filter (λ item. nat_le begin item.serial) new ≡ filter (λ item. nat_le begin item.serial) old
      by None both = ap (filter (λ item. nat_le begin item.serial)) (both.1 ∙ sym both.0)
      by (Some last) is =
          let below : nat_lt last.serial begin ≡ true =
          sym (last_below begin new last) ∙ ap (ends_below begin) (sym is) ∙ older in
          sym (ap (filter (λ item. nat_le begin item.serial)) is
          ∙ not_kept begin new last (less_is_not_le last.serial begin below))

  pub popped_falls : AreFalling old → AreFalling new
  popped_falls fall = by r gone
    where
      by : (r : Option SeqItem) → MatchOption r ((old ≡ []) × (new ≡ [])) (λ last. old ≡ new ++ last ∷ [])
          → AreFalling new
      by None both = subst AreFalling (both.0 ∙ sym both.1) fall
      by (Some last) is = record {
        begin = fall.begin;
        end = fall.end;
        newest = front_falls fall.begin fall.end new last
            (subst (λ (xs : List SeqItem). are_newest_first fall.begin fall.end xs ≡ true) is fall.newest);
      }

  pub popped_shorter : length new < length old
  popped_shorter = by r gone
    where
      by : (r : Option SeqItem) → MatchOption r ((old ≡ []) × (new ≡ [])) (λ last. old ≡ new ++ last ∷ [])
          → length new < length old
      by None both = absurd (true_is_not_false (sym older ∙ ap (ends_below begin) both.0))
      by (Some last) is = omega (arith, length_snoc new last, ap length is)

-- where the last isn't older, none is
late_ones : (begin low end : ℕ) (x : SeqItem) (xs : List SeqItem) → are_newest_first low end (x ∷ xs) ≡ true
    → ends_below begin (x ∷ xs) ≡ false
    → (begin ≤ x.serial) × (filter (λ item. nat_le begin item.serial) (x ∷ xs) ≡ x ∷ xs)
late_ones begin low end x [] fall late =
    let le : begin ≤ x.serial = not_less x.serial begin late in
    (le, rw (is_le begin x.serial le) refl)
late_ones begin low end x (y ∷ ys) fall late =
    let rest : are_newest_first low x.serial (y ∷ ys) ≡ true =
    second_of_both (nat_le low x.serial && nat_lt x.serial end) (are_newest_first low x.serial (y ∷ ys)) fall in
    let less : y.serial < x.serial =
    lt_is y.serial x.serial (second_of_both (nat_le low y.serial) (nat_lt y.serial x.serial)
    (first_of_both (nat_le low y.serial && nat_lt y.serial x.serial) (are_newest_first low y.serial ys) rest)) in
    let at : length (x ∷ y ∷ ys) - 1 ≡ suc (length (y ∷ ys) - 1) = omega arith in
    let last : ends_below begin (y ∷ ys) ≡ false =
    subst
    (λ (k : ℕ). option_map_or (λ (item : SeqItem). nat_lt item.serial begin) (slice_get (x ∷ y ∷ ys) k) false
    ≡ false) at late in
    let later = late_ones begin low x.serial y ys rest last in
    let le : begin ≤ x.serial = omega (arith, less, later.0) in
    (le, rw (is_le begin x.serial le) (ap (λ (zs : List SeqItem). x ∷ zs) later.1))

pub all_kept : (begin : ℕ) (items : List SeqItem) → AreFalling items → ends_below begin items ≡ false
    → items ≡ filter (λ item. nat_le begin item.serial) items
all_kept begin [] fall late = refl
all_kept begin (x ∷ xs) fall late = sym (late_ones begin fall.begin fall.end x xs fall.newest late).1

-- ---- a database in shape

roots_fall : (types : List SegDef) (ends : AreaEnds) (roots : List Root)
    → list_all (is_root types ends) roots ≡ true → AllFall roots
roots_fall types ends [] e = tt
roots_fall types ends (root ∷ roots) e =
    let a = has_length types 0 root.bytes in
    let b = are_rows types (child_types types 0) (map (map (seen_as types)) root.children) in
    let c = are_newest_first ends.begin ends.end root.seqs in
    let d = have_lengths types root.seqs in
    let one = first_of_both (is_root types ends root) (list_all (is_root types ends) roots) e in (
      record {
        begin = ends.begin;
        end = ends.end;
        newest = second_of_both (a && b) c (first_of_both ((a && b) && c) d one);
      },
      roots_fall types ends roots (second_of_both (is_root types ends root) (list_all (is_root types ends) roots) e),
    )

module _ (dedbs : List Dedb) (area : Area) (is : IsAreaIn dedbs area) where
  its : AtArea is.defs (beside is.defs dedbs) area
  its = at_area is.defs (beside is.defs dedbs) (whole is.defs dedbs is.good is.shape) area is.there

  pub in_dedbs : area.dedb < length dedbs
  in_dedbs = slice_get_within dedbs area.dedb its.dedb its.now

  module _ (d : Dedb) (now : slice_get dedbs area.dedb ≡ Some d) where
    same : its.dedb ≡ d
    same = same_Some its.dedb d (sym its.now ∙ now)

    ends_now : slice_get d.areas area.number ≡ Some its.ends
    ends_now = subst (λ (x : Dedb). slice_get x.areas area.number ≡ Some its.ends) same its.ends_now

    good : IsDedbOf its.def d
    good = subst (IsDedbOf its.def) same its.good

    pub in_areas : area.number < length d.areas
    in_areas = slice_get_within d.areas area.number its.ends ends_now

    pub anchors_within : area.first_anchor + anchors_in area.def ≤ length d.anchors
    anchors_within =
        let within = ends_within 0 0 0 its.def.areas (alone area) its.there in
        let long : length d.anchors ≡ anchor_count its.def = good.anchors in
        omega (arith, within, long)

    pub fall_there : FallFrom area.first_anchor (anchors_in area.def) d.anchors
    fall_there at roots low high roots_now =
        let has : has_anchor (alone area) 0 at ≡ true =
        and_from (0 == 0 && nat_le area.first_anchor at) (nat_lt at (area.first_anchor + anchors_in area.def))
        (is_le area.first_anchor at low) (lt_true at (area.first_anchor + anchors_in area.def) high) in
        let its_roots : is_anchor its.def at its.ends roots ≡ true =
        good.each_anchor (alone area) its.ends at roots its.there ends_now has roots_now in
        let a = list_all (is_root its.def.segments its.ends) roots in
        let b = ascend (map (root_key its.def.segments) roots) in
        let c = list_all (λ root. anchor_of its.def (root_key its.def.segments root) == at) roots in
        roots_fall its.def.segments its.ends roots (first_of_both a b (first_of_both (a && b) c its_roots))

    -- ---- the state

    module _ (msdbs : List Msdb) (n : ℕ) where
      abbrev db : Db
      db = state_of msdbs dedbs

      ends_are_its : ends_at db area ≡ its.ends
      ends_are_its = rw now (rw ends_now refl)

      abbrev first : AreaEnds → Dedb → Dedb
      first ends x = record x { anchors = in_anchors area (map (kept_from (moved_up n ends).begin)) x.anchors }

      abbrev second : AreaEnds → Dedb → Dedb
      second ends x = record x { areas = slice_set x.areas area.number (moved_up n ends) }

      purged_to : (purged_area area n db).dedbs ≡ slice_set dedbs area.dedb (with_purged area n its.ends d)
      purged_to =
          let e : AreaEnds = ends_at db area in
          let one = dedb_changed area.dedb (first e) db d now in
          let there : slice_get (with_dedb area.dedb (first e) db).dedbs area.dedb ≡ Some (first e d) =
          ap (λ (ds : List Dedb). slice_get ds area.dedb) one ∙ get_set_same dedbs area.dedb (first e d) d now in
          dedb_changed area.dedb (second e) (with_dedb area.dedb (first e) db) (first e d) there
          ∙ ap (λ (ds : List Dedb). slice_set ds area.dedb (second e (first e d))) one
          ∙ set_twice dedbs area.dedb (first e d) (second e (first e d))
          ∙ ap (λ (x : AreaEnds). slice_set dedbs area.dedb (with_purged area n x d)) ends_are_its

      pub purged_is : (new : Dedb)
          → ((ends : AreaEnds) → slice_get d.areas area.number ≡ Some ends → new ≡ with_purged area n ends d)
          → purged_area area n db ≡ state_of msdbs (slice_set dedbs area.dedb new)
      purged_is new is =
          ap (λ (ds : List Dedb). state_of msdbs ds) (purged_to ∙ ap (λ (x : Dedb). slice_set dedbs area.dedb x)
          (sym (is its.ends ends_now)))

-- ---- a data set

pub above_zero : (n : ℕ) → (n ≡ 0 → ⊥) → nat_lt 0 n ≡ true
above_zero n not = grind (arith, nat_tests)

module _ (defs : Defs) (set n : ℕ) where
  pub purge_none : (db : Db) → area_of_set defs set ≡ None → purged defs set n db ≡ None
  unfolding purged
  purge_none db e = rw e refl

  pub purge_without : (db : Db) (area : Area) → area_of_set defs set ≡ Some area → area.def.capacity ≡ 0
      → purged defs set n db ≡ None
  unfolding purged
  purge_without db area e none = rw e (rw none refl)

  pub purge_some : (db : Db) (area : Area) → area_of_set defs set ≡ Some area → nat_lt 0 area.def.capacity ≡ true
      → purged defs set n db ≡ Some (purged_area area n db)
  unfolding purged
  purge_some db area e some = rw e (rw some refl)

  pub its_area : (dedbs : List Dedb) (area : Area) → AreDefs defs → AreDedbsOf defs dedbs
      → area_of_set defs set ≡ Some area → IsAreaIn dedbs area
  its_area dedbs area are shape e =
      record { defs = defs; good = are; shape = shape; there = there (nat_lt set first_area_set) e }
    where
      there : (b : Bool) → (if b then None else slice_get (areas_of defs) (set - first_area_set)) ≡ Some area
          → Contains (areas_of defs) area
      there true at = absurd (none-some area at)
      there false at = get_contains (areas_of defs) (set - first_area_set) area at

  pub shape_purged : (dedbs next : List Dedb) → AreDefs defs → AreDedbsOf defs dedbs
      → purged defs set n (beside defs dedbs) ≡ Some (beside defs next) → AreDedbsOf defs next
  shape_purged dedbs next are shape e =
      (purge_good defs (beside defs dedbs) (whole defs dedbs are shape) set n (beside defs next) e).dedbs
