-- Areas that are too full for sequential inserts, in the databases and by their places.
use Rattle.std.proofs.Common.{◌≡◌, inl, inr, ℕ, zero, suc, ◌+◌, ◌-◌, ◌<◌, Bool, true, false, List, [], ◌∷◌, ◌++◌, length, map, Some, None, refl, sym, ◌∙◌, ap, subst, arith}
use Rattle.std.specs.Prelude.{◌&&◌, filter, nat_lt, slice_get}
use Rattle.std.proofs.lemmas.Bool.{cases_Bool}
use Rattle.std.proofs.lemmas.Bool.Decides.{nat_tests}
use Rattle.fp_model.specs.declared.calls.AnchorChange.{AnchorChange}
use Rattle.fp_model.specs.declared.calls.SeqInsert.{SeqInsert}
use Rattle.fp_model.specs.declared.database.Db.{Db}
use Rattle.fp_model.specs.declared.definitions.DedbDef.{DedbDef}
use Rattle.fp_model.specs.declared.definitions.Defs.{Defs}
use Rattle.fp_model.specs.Commit.{FillsPart, ends_at, first_full, is_too_full, takes}
use Rattle.fp_model.specs.State.{Area, areas_from, areas_of, areas_of_all, first_area_set}
use Rattle.area_states.specs.declared.place.Place.{Place}
use Rattle.area_states.specs.Places.{has_anchor as lies_in, place_at, place_of, places_from, places_of}
use Rattle.area_states.specs.States.{AreaState}
use Rattle.area_states.specs.Changes.{IsTooFull, ends_of, with_change, with_changes}
use Rattle.area_states.specs.Databases.{state_of}
use Rattle.area_laws.specs.Areas.{TakesAll}
use Rattle.area_laws.proofs.PlaceLemmas.{area_of_place}
use Rattle.std.proofs.lemmas.Option.{none-some, same_Some}

-- ---- the place of an area

-- an area of some databases has a place at the same number among their places
record HasPlaceAmong (places : List Place) (n : ℕ) (area : Area) : Type 0 where
  def : DedbDef
  there : slice_get places n ≡ Some (place_of def area)

own_place : (dedb : ℕ) (d : DedbDef) (ds : List DedbDef) (own : List Area)
    → ((m : ℕ) (area : Area) → slice_get (areas_of_all (dedb + 1) ds) m ≡ Some area
    → HasPlaceAmong (places_from (dedb + 1) ds) m area) → (n : ℕ) (area : Area)
    → slice_get (own ++ areas_of_all (dedb + 1) ds) n ≡ Some area
    → HasPlaceAmong (map (place_of d) own ++ places_from (dedb + 1) ds) n area
own_place dedb d ds [] rest n area e = rest n area e
own_place dedb d ds (a ∷ own) rest zero area e =
    record { def = d; there = ap (λ (x : Area). Some (place_of d x)) (same_Some a area e) }
own_place dedb d ds (a ∷ own) rest (suc n) area e =
    let h = own_place dedb d ds own rest n area e in
    record { def = h.def; there = h.there }

place_among : (dedb : ℕ) (defs : List DedbDef) (n : ℕ) (area : Area) → slice_get (areas_of_all dedb defs) n ≡ Some area
    → HasPlaceAmong (places_from dedb defs) n area
place_among dedb [] n area e = absurd (none-some area e)
place_among dedb (d ∷ ds) n area e =
    own_place dedb d ds (areas_from dedb 0 0 d.areas) (place_among (dedb + 1) ds) n area e

pub at_set : (places : List Place) (n : ℕ) (place : Place) → slice_get places n ≡ Some place
    → place_at places (first_area_set + n) ≡ Some place
at_set places n place e =
    let not : nat_lt (first_area_set + n) first_area_set ≡ false = grind (arith, nat_tests) in
    let less : first_area_set + n - first_area_set ≡ n = omega arith in
    rw not (ap (slice_get places) less ∙ e)

-- ---- which area is too full

module _ (db : Db) (inserts : List SeqInsert) where
  -- how many inserts an area takes, and whether it is too full for them
  abbrev pub count_at : Area → ℕ
  count_at area = length (filter (takes area) inserts)

  abbrev pub is_full : Area → Bool
  is_full area =
      nat_lt 0 (count_at area) && is_too_full area.def.capacity (ends_at db area) (count_at area)

  no_full : (set : ℕ) (areas : List Area)
      → ((k : ℕ) (area : Area) → slice_get areas k ≡ Some area → is_full area ≡ false)
      → first_full db inserts set areas ≡ None
  no_full set [] none = refl
  no_full set (a ∷ areas) none = rw (none 0 a refl) (no_full (set + 1) areas (λ k. none (suc k)))

  full_at : (set : ℕ) (areas : List Area) (k : ℕ) (area : Area) → slice_get areas k ≡ Some area
      → ((j : ℕ) (other : Area) → j < k → slice_get areas j ≡ Some other → is_full other ≡ false)
      → is_full area ≡ true
      → first_full db inserts set areas
      ≡ Some (FillsPart (set + k) (ends_at db area).begin (ends_at db area).end (count_at area))
  full_at set [] k area at none full = absurd (none-some area at)
  full_at set (a ∷ areas) zero area at none full =
      let same : a ≡ area = same_Some a area at in
      let first : is_full a ≡ true = subst (λ (x : Area). is_full x ≡ true) (sym same) full in
      let number : set ≡ set + 0 = omega arith in
      rw first (ap (λ (n : ℕ). Some (FillsPart n (ends_at db a).begin (ends_at db a).end (count_at a))) number
      ∙ ap (λ (x : Area). Some (FillsPart (set + 0) (ends_at db x).begin (ends_at db x).end (count_at x))) same)
  full_at set (a ∷ areas) (suc k) area at none full =
      let later = full_at (set + 1) areas k area at (λ j other lt. none (suc j) other (omega (arith, lt))) full in
      let number : set + 1 + k ≡ set + suc k = omega arith in
      rw (none 0 a (omega arith) refl) (later
      ∙ ap (λ (n : ℕ). Some (FillsPart n (ends_at db area).begin (ends_at db area).end (count_at area))) number)

  -- by its place
  has_room : (area : Area) (def : DedbDef) → TakesAll db inserts (place_of def area) → is_full area ≡ false
  has_room area def takes_all = by (nat_lt 0 (count_at area)) refl
    where
      some : nat_lt 0 (count_at area) ≡ true → 0 < count_at area
      some e = grind (arith, nat_tests)

      by : (b : Bool) → nat_lt 0 (count_at area) ≡ b
          → (b && is_too_full area.def.capacity (ends_at db area) (count_at area)) ≡ false
      by true is = takes_all (some is)
      by false is = refl

  is_some : (n : ℕ) → 0 < n → nat_lt 0 n ≡ true
  is_some n lt = grind (arith, nat_tests)

  both : (a b : Bool) → a ≡ true → b ≡ true → (a && b) ≡ true
  both a b p q = rw (p, q) refl

-- ---- by data sets

pub none_is_full : (defs : Defs) (db : Db) (inserts : List SeqInsert)
    → ((set : ℕ) (place : Place) → place_at (places_of defs) set ≡ Some place → TakesAll db inserts place)
    → first_full db inserts first_area_set (areas_of defs) ≡ None
none_is_full defs db inserts all =
    no_full db inserts first_area_set (areas_of defs)
    (λ k area e. (let h = place_among 0 defs.dedbs k area e in has_room db inserts area h.def
    (all (first_area_set + k) (place_of h.def area) (at_set (places_of defs) k (place_of h.def area) h.there))))

pub first_is_full : (defs : Defs) (db : Db) (inserts : List SeqInsert) (set : ℕ) (place : Place) (begin end n : ℕ)
    → place_at (places_of defs) set ≡ Some place
    → ((earlier : ℕ) (other : Place) → earlier < set → place_at (places_of defs) earlier ≡ Some other
    → TakesAll db inserts other)
    → IsTooFull place (state_of place db) inserts begin end n
    → first_full db inserts first_area_set (areas_of defs) ≡ Some (FillsPart set begin end n)
first_is_full defs db inserts set place begin end n at earlier full =
    let a = area_of_place defs set place at in
    let full2 : IsTooFull (place_of a.def a.area) (state_of (place_of a.def a.area) db) inserts begin end n =
    subst (λ (p : Place). IsTooFull p (state_of p db) inserts begin end n) a.is_place full in
    let from : first_area_set + (set - first_area_set) ≡ set = behind set a.is_area in
    let some : 0 < count_at db inserts a.area = (let x = full2.some in let y = full2.is_count in omega (arith, x, y)) in
    let too : is_too_full a.area.def.capacity (ends_at db a.area) (count_at db inserts a.area) ≡ true =
    subst (λ (m : ℕ). is_too_full a.area.def.capacity (ends_at db a.area) m ≡ true) full2.is_count full2.too_full in
    let is : is_full db inserts a.area ≡ true =
    both db inserts (nat_lt 0 (count_at db inserts a.area))
    (is_too_full a.area.def.capacity (ends_at db a.area) (count_at db inserts a.area))
    (is_some db inserts (count_at db inserts a.area) some) too in
    full_at db inserts first_area_set (areas_of defs) (set - first_area_set) a.area a.there
    (λ j other lt e. (let h = place_among 0 defs.dedbs j other e in has_room db inserts other h.def
    (earlier (first_area_set + j) (place_of h.def other) (omega (arith, lt, from))
    (at_set (places_of defs) j (place_of h.def other) h.there)))) is
    ∙ ap (λ (s : ℕ). Some (FillsPart s (ends_at db a.area).begin (ends_at db a.area).end (count_at db inserts a.area)))
    from
    ∙ ap (λ (b : ℕ). Some (FillsPart set b (ends_at db a.area).end (count_at db inserts a.area))) (sym full2.is_begin)
    ∙ ap (λ (e : ℕ). Some (FillsPart set begin e (count_at db inserts a.area))) (sym full2.is_end)
    ∙ ap (λ (m : ℕ). Some (FillsPart set begin end m)) (sym full2.is_count)
  where
    behind : (s : ℕ) → nat_lt s first_area_set ≡ false → first_area_set + (s - first_area_set) ≡ s
    behind s e = grind (arith, nat_tests)

-- changed anchors leave the ends
pub changes_keep_ends : (place : Place) (changes : List AnchorChange) (state : AreaState)
    → ends_of (with_changes place changes state) ≡ ends_of state
changes_keep_ends place [] state = refl
changes_keep_ends place (c ∷ changes) state =
    changes_keep_ends place changes (with_change place state c) ∙ elim (cases_Bool (lies_in place c.dedb c.anchor)) [
      | inl is ↦ rw is refl
      | inr other ↦ rw other refl
    ]
