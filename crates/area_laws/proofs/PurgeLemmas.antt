-- A Purge in the databases and in an area.
use Rattle.std.proofs.Common.{◌≡◌, ◌≢◌, ◌⊎◌, inl, inr, ℕ, zero, suc, ◌+◌, ◌-◌, ◌<◌, ◌≤◌, Bool, true, false, List, [], ◌∷◌, ◌++◌, map, min, Some, None, Option, refl, sym, ◌∙◌, ap, subst, arith}
use Rattle.std.specs.Prelude.{Contains, IsSome, if◌then◌else◌, nat_lt, option_map, slice_get, unwrap_or}
use Rattle.std.specs.Option.{option_map_or}
use Rattle.std.proofs.lemmas.Bool.Decides.{nat_tests}
use Rattle.fp_model.specs.declared.database.AreaEnds.{AreaEnds}
use Rattle.fp_model.specs.declared.database.Db.{Db}
use Rattle.fp_model.specs.declared.database.Dedb.{Dedb}
use Rattle.fp_model.specs.declared.database.Root.{Root}
use Rattle.fp_model.specs.declared.definitions.DedbDef.{DedbDef}
use Rattle.fp_model.specs.declared.definitions.Defs.{Defs}
use Rattle.fp_model.specs.Commit.{area_of_set, ends_at, in_anchors, kept_from, purged, purged_area, with_dedb, with_ends}
use Rattle.fp_model.specs.State.{Area, anchors_in, areas_from, areas_of, areas_of_all, first_area_set, roots_at}
use Rattle.area_states.specs.declared.place.Place.{Place}
use Rattle.area_states.specs.Places.{place_at, place_of, places_from, places_of}
use Rattle.area_states.specs.States.{SameState}
use Rattle.area_states.specs.Changes.{purged as purged_here}
use Rattle.area_states.specs.Databases.{state_of}
use Rattle.state_laws.proofs.Areas.{AreApart, database, same_or_apart}
use Rattle.state_laws.proofs.Ranges.{get_inside}
use Rattle.area_laws.specs.Areas.{HasArea, HasPart, area_count}
use Rattle.area_laws.proofs.DedbLemmas.{changed_here, count_in, ends_in, ends_keep_roots, its_ends, other_ends, roots_in, stays_in}
use Rattle.area_laws.proofs.PlaceLemmas.{area_of_place, one_number}
use Rattle.plain_laws.proofs.Alls.{get_contains}
use Rattle.plain_laws.proofs.Places.{get_outside}
use Rattle.std.proofs.lemmas.Option.{none-some, same_Some}

-- ---- the roots of an area, without serials below a begin

module _ (area : Area) (begin : ℕ) (db : Db) where
  abbrev pub changed : Dedb → Dedb
  changed d = record d { anchors = in_anchors area (map (kept_from begin)) d.anchors }

  abbrev pub after : Db
  after = with_dedb area.dedb changed db

  mapped : (o : Option (List Root)) → unwrap_or (option_map (map (kept_from begin)) o) []
      ≡ map (kept_from begin) (unwrap_or o [])
  mapped None = refl
  mapped (Some roots) = refl

  its_roots : (k : ℕ) → k < anchors_in area.def
      → roots_at after area.dedb (area.first_anchor + k)
      ≡ map (kept_from begin) (roots_at db area.dedb (area.first_anchor + k))
  its_roots k lt = ap (roots_in (area.first_anchor + k)) (changed_here area.dedb changed db)
      ∙ by (slice_get db.dedbs area.dedb)
    where
      by : (o : Option Dedb) → roots_in (area.first_anchor + k) (option_map changed o)
          ≡ map (kept_from begin) (roots_in (area.first_anchor + k) o)
      by None = refl
      by (Some d) =
          ap (λ (o : Option (List Root)). unwrap_or o [])
          (get_inside area.first_anchor (anchors_in area.def) (area.first_anchor + anchors_in area.def)
          (map (kept_from begin)) d.anchors (area.first_anchor + k) refl (omega arith) (omega (arith, lt)))
          ∙ mapped (slice_get d.anchors (area.first_anchor + k))

  -- those elsewhere stay
  other_roots : (dedb anchor : ℕ)
      → (dedb ≡ area.dedb → (anchor < area.first_anchor) ⊎ (area.first_anchor + anchors_in area.def ≤ anchor))
      → roots_at after dedb anchor ≡ roots_at db dedb anchor
  other_roots dedb anchor out = stays_in area.dedb changed db (roots_in anchor) dedb
      (λ e d. ap (λ (o : Option (List Root)). unwrap_or o [])
      (get_outside area.first_anchor (anchors_in area.def) (area.first_anchor + anchors_in area.def)
      (map (kept_from begin)) d.anchors anchor refl (out e)))

  ends_stay : (other : Area) → ends_at after other ≡ ends_at db other
  ends_stay other = stays_in area.dedb changed db (ends_in other.number) other.dedb (λ e d. refl)

  pub count_stays : (dedb : ℕ) → area_count after dedb ≡ area_count db dedb
  count_stays dedb = stays_in area.dedb changed db count_in dedb (λ e d. refl)

-- ---- the whole Purge

module _ (area : Area) (n : ℕ) (db : Db) where
  abbrev ends : AreaEnds
  ends = ends_at db area

  abbrev begin : ℕ
  begin = min ends.end (ends.begin + n)

  abbrev moved : AreaEnds
  moved = record ends { begin = begin }

  -- the area itself
  pub purged_own : (def : DedbDef) → HasArea db (place_of def area)
      → SameState (place_of def area) (purged_here n (state_of (place_of def area) db))
      (state_of (place_of def area) (purged_area area n db))
  purged_own def has =
      let mid : Db = after area begin db in
      let count = count_stays area begin db area.dedb in
      let new : ends_at (with_ends area moved mid) area ≡ moved =
      its_ends area moved mid (omega (arith, count, has)) in
      record {
        roots = λ k lt. sym (ends_keep_roots area moved mid area.dedb (area.first_anchor + k)
            ∙ its_roots area begin db k lt);
        begin = ap (λ (e : AreaEnds). e.begin) (sym new);
        end = ap (λ (e : AreaEnds). e.end) (sym new);
      }

  -- another area
  pub purged_other : (other : Area) (def : DedbDef) → (other.dedb ≡ area.dedb → AreApart area other)
      → SameState (place_of def other) (state_of (place_of def other) db)
      (state_of (place_of def other) (purged_area area n db))
  purged_other other def apart =
      let mid : Db = after area begin db in
      let same : ends_at (with_ends area moved mid) other ≡ ends_at db other =
      other_ends area moved mid other (λ d e. (apart d).numbers (sym e)) ∙ ends_stay area begin db other in
      record {
        roots = λ k lt. sym (ends_keep_roots area moved mid other.dedb (other.first_anchor + k)
            ∙ other_roots area begin db other.dedb (other.first_anchor + k) (λ d. outside d k lt));
        begin = ap (λ (e : AreaEnds). e.begin) (sym same);
        end = ap (λ (e : AreaEnds). e.end) (sym same);
      }
    where
      outside : other.dedb ≡ area.dedb → (k : ℕ) → k < anchors_in other.def
          → (other.first_anchor + k < area.first_anchor)
          ⊎ (area.first_anchor + anchors_in area.def ≤ other.first_anchor + k)
      outside d k lt = elim ((apart d).anchors) [
        | inl before ↦ inr (omega (arith, before))
        | inr behind ↦ inl (omega (arith, behind, lt))
      ]

-- ---- by data sets

-- two areas of one database at different data sets lie apart
sets_apart : (defs : Defs) (n m : ℕ) (a b : Area) → n ≢ m → slice_get (areas_of defs) n ≡ Some a
    → slice_get (areas_of defs) m ≡ Some b → b.dedb ≡ a.dedb → AreApart a b
sets_apart defs n m a b ne p q d =
    let ha = database 0 defs.dedbs a (get_contains (areas_of defs) n a p) in
    let hb = database 0 defs.dedbs b (get_contains (areas_of defs) m b q) in
    let at : hb.place ≡ ha.place = (let x = ha.its_dedb in let y = hb.its_dedb in omega (arith, d, x, y)) in
    let def_at : slice_get defs.dedbs ha.place ≡ Some hb.def =
    subst (λ (k : ℕ). slice_get defs.dedbs k ≡ Some hb.def) at hb.its_def in
    let def_is : hb.def ≡ ha.def = same_Some hb.def ha.def (sym def_at ∙ ha.its_def) in
    let there : Contains (areas_from a.dedb 0 0 hb.def.areas) b =
    subst (λ (k : ℕ). Contains (areas_from k 0 0 hb.def.areas) b) d hb.there in
    let there2 : Contains (areas_from a.dedb 0 0 ha.def.areas) b =
    subst (λ (x : DedbDef). Contains (areas_from a.dedb 0 0 x.areas) b) def_is there in
    elim (same_or_apart a.dedb 0 0 ha.def.areas a b ha.there there2) [
      | inl same ↦ absurd (ne (one_number defs.dedbs n m a b p q (sym d) (ap (λ (x : Area). x.number) same)))
      | inr apart ↦ apart
    ]

-- the area that a Purge is of
pub record IsPurgeOf (defs : Defs) (set n : ℕ) (db new : Db) : Type 0 where
  pub area : Area
  pub is_area : nat_lt set first_area_set ≡ false
  pub there : slice_get (areas_of defs) (set - first_area_set) ≡ Some area
  pub some : nat_lt 0 area.def.capacity ≡ true
  pub is_new : new ≡ purged_area area n db

pub purge_of : (defs : Defs) (set n : ℕ) (db new : Db) → purged defs set n db ≡ Some new
    → IsPurgeOf defs set n db new
unfolding purged
purge_of defs set n db new e = by (area_of_set defs set) refl e
  where
    at : (b : Bool) → nat_lt set first_area_set ≡ b → (area : Area)
        → (if b then None else slice_get (areas_of defs) (set - first_area_set)) ≡ Some area
        → (nat_lt 0 area.def.capacity ≡ true) × (new ≡ purged_area area n db) → IsPurgeOf defs set n db new
    at true is area e same = absurd (none-some area e)
    at false is area e same = record { area = area; is_area = is; there = e; some = same.0; is_new = same.1 }

    with_part : (b : Bool) (area : Area) → (if b then Some (purged_area area n db) else None) ≡ Some new
        → (b ≡ true) × (new ≡ purged_area area n db)
    with_part true area e = (refl, sym (same_Some (purged_area area n db) new e))
    with_part false area e = absurd (none-some new e)

    by : (o : Option Area) → area_of_set defs set ≡ o
        → option_map_or (λ (area : Area). if nat_lt 0 area.def.capacity then Some (purged_area area n db) else None)
        o None ≡ Some new
        → IsPurgeOf defs set n db new
    by None is e = absurd (none-some new e)
    by (Some area) is e = at (nat_lt set first_area_set) refl area is (with_part (nat_lt 0 area.def.capacity) area e)

pub purge_here : (defs : Defs) (set n : ℕ) (db new : Db) (place : Place) → purged defs set n db ≡ Some new
    → place_at (places_of defs) set ≡ Some place → HasArea db place
    → SameState place (purged_here n (state_of place db)) (state_of place new)
purge_here defs set n db new place e at has =
    let p = purge_of defs set n db new e in
    let a = area_of_place defs set place at in
    let same : a.area ≡ p.area = same_Some a.area p.area (sym a.there ∙ p.there) in
    let has2 : HasArea db (place_of a.def a.area) = subst (HasArea db) a.is_place has in
    let own = purged_own a.area n db a.def has2 in
    let own2 = subst (λ (x : Area). SameState (place_of a.def a.area)
    (purged_here n (state_of (place_of a.def a.area) db))
    (state_of (place_of a.def a.area) (purged_area x n db))) same own in
    let own3 = subst (λ (d : Db). SameState (place_of a.def a.area)
    (purged_here n (state_of (place_of a.def a.area) db)) (state_of (place_of a.def a.area) d)) (sym p.is_new) own2 in
    subst (λ (x : Place). SameState x (purged_here n (state_of x db)) (state_of x new)) (sym a.is_place) own3

pub purge_elsewhere : (defs : Defs) (set n : ℕ) (db new : Db) (other : ℕ) (place : Place)
    → purged defs set n db ≡ Some new → other ≢ set → place_at (places_of defs) other ≡ Some place
    → SameState place (state_of place db) (state_of place new)
purge_elsewhere defs set n db new other place e ne at =
    let p = purge_of defs set n db new e in
    let a = area_of_place defs other place at in
    let numbers : set - first_area_set ≢ other - first_area_set =
    λ s. ne (from_first set other p.is_area a.is_area s) in
    let own = purged_other p.area n db a.area a.def
    (sets_apart defs (set - first_area_set) (other - first_area_set) p.area a.area numbers p.there a.there) in
    let own2 = subst (λ (d : Db). SameState (place_of a.def a.area) (state_of (place_of a.def a.area) db)
    (state_of (place_of a.def a.area) d)) (sym p.is_new) own in
    subst (λ (x : Place). SameState x (state_of x db) (state_of x new)) (sym a.is_place) own2
  where
    from_first : (s o : ℕ) → nat_lt s first_area_set ≡ false → nat_lt o first_area_set ≡ false
        → s - first_area_set ≡ o - first_area_set → o ≡ s
    from_first s o p q e = grind (arith, nat_tests)

-- ---- when there are databases behind a Purge

-- each area has its place
placed_own : (d : DedbDef) (own rest : List Area) (places : List Place)
    → ((k : ℕ) (area : Area) → slice_get rest k ≡ Some area
    → (def : DedbDef) × (slice_get places k ≡ Some (place_of def area)))
    → (k : ℕ) (area : Area) → slice_get (own ++ rest) k ≡ Some area
    → (def : DedbDef) × (slice_get (map (place_of d) own ++ places) k ≡ Some (place_of def area))
placed_own d [] rest places later k area e = later k area e
placed_own d (a ∷ own) rest places later zero area e = (d, ap (λ x. Some (place_of d x)) (same_Some a area e))
placed_own d (a ∷ own) rest places later (suc k) area e = placed_own d own rest places later k area e

pub placed_among : (dedb : ℕ) (ds : List DedbDef) (k : ℕ) (area : Area) → slice_get (areas_of_all dedb ds) k ≡ Some area
    → (def : DedbDef) × (slice_get (places_from dedb ds) k ≡ Some (place_of def area))
placed_among dedb [] k area e = absurd (none-some area e)
placed_among dedb (d ∷ ds) k area e =
    placed_own d (areas_from dedb 0 0 d.areas) (areas_of_all (dedb + 1) ds) (places_from (dedb + 1) ds)
    (placed_among (dedb + 1) ds) k area e

pub part_of_purge : (defs : Defs) (set n : ℕ) (db new : Db) → purged defs set n db ≡ Some new
    → HasPart (places_of defs) set
part_of_purge defs set n db new e =
    let p = purge_of defs set n db new e in
    let at = placed_among 0 defs.dedbs (set - first_area_set) p.area p.there in
    record {
      place = place_of at.0 p.area;
      is_place = (let low = p.is_area in rw low at.1);
      some = (let some = p.some in grind (arith, nat_tests, some));
    }

pub purge_there : (defs : Defs) (set n : ℕ) (db : Db) → HasPart (places_of defs) set → IsSome (purged defs set n db)
unfolding purged
purge_there defs set n db has =
    let a = area_of_place defs set has.place has.is_place in
    let capacity : 0 < a.area.def.capacity = subst (λ (p : Place). 0 < p.capacity) a.is_place has.some in
    let low = a.is_area in
    let there = a.there in
    let some : nat_lt 0 a.area.def.capacity ≡ true = grind (arith, nat_tests, capacity) in
    rw low (rw there (rw some refl))

pub purge_none : (defs : Defs) (set n : ℕ) (db : Db) → ¬ HasPart (places_of defs) set → purged defs set n db ≡ None
purge_none defs set n db none = by (purged defs set n db) refl
  where
    by : (o : Option Db) → purged defs set n db ≡ o → o ≡ None
    by None e = refl
    by (Some new) e = absurd (none (part_of_purge defs set n db new e))
