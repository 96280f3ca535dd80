-- The area of definitions that a data set has, and its place.
use Rattle.std.proofs.Common.{◌≡◌, inl, inr, ℕ, zero, suc, ◌+◌, ◌-◌, ◌≤◌, Bool, true, false, List, [], ◌∷◌, ◌++◌, map, Some, None, refl, sym, ◌∙◌, ap, subst, arith}
use Rattle.std.specs.Prelude.{Contains, if◌then◌else◌, nat_lt, slice_get}
use Rattle.std.specs.List.{AllByRecursion}
use Rattle.std.proofs.lemmas.Bool.Decides.{nat_tests}
use Rattle.std.proofs.lemmas.List.Elements.{Contains-append_cases}
use Rattle.fp_model.specs.declared.calls.SeqInsert.{SeqInsert}
use Rattle.fp_model.specs.declared.definitions.AreaDef.{AreaDef}
use Rattle.fp_model.specs.declared.definitions.DedbDef.{DedbDef}
use Rattle.fp_model.specs.declared.definitions.Defs.{Defs}
use Rattle.fp_model.specs.Commit.{takes}
use Rattle.fp_model.specs.State.{Area, anchors_in, areas_from, areas_of, areas_of_all, first_area_set, has_anchor}
use Rattle.area_states.specs.declared.place.Place.{Place}
use Rattle.area_states.specs.Places.{place_at, place_of, places_from, places_of}
use Rattle.state_laws.proofs.Areas.{database, lies_in, lies_outside, placed, same_or_apart}
use Rattle.plain_laws.proofs.Alls.{get_contains}
use Rattle.std.proofs.lemmas.Option.{none-some, same_Some}

-- ---- places and areas side by side

-- a place is that of an area of some databases, which stands at the same number among their areas
pub record IsPlaceAmong (dedb : ℕ) (defs : List DedbDef) (areas : List Area) (n : ℕ) (place : Place) : Type 0 where
  pub area : Area
  pub def : DedbDef
  pub at : ℕ
  pub its_dedb : area.dedb ≡ dedb + at
  pub defined : slice_get defs at ≡ Some def
  pub is_place : place ≡ place_of def area
  pub there : slice_get areas n ≡ Some area

-- those of the first database, then those of the others
among_own : (dedb : ℕ) (d : DedbDef) (ds : List DedbDef) (own : List Area) → AllByRecursion (λ a. a.dedb ≡ dedb) own
    → ((m : ℕ) (place : Place) → slice_get (places_from (dedb + 1) ds) m ≡ Some place
    → IsPlaceAmong (dedb + 1) ds (areas_of_all (dedb + 1) ds) m place) → (n : ℕ) (place : Place)
    → slice_get (map (place_of d) own ++ places_from (dedb + 1) ds) n ≡ Some place
    → IsPlaceAmong dedb (d ∷ ds) (own ++ areas_of_all (dedb + 1) ds) n place
among_own dedb d ds [] all rest n place e =
    let h = rest n place e in
    record {
      area = h.area;
      def = h.def;
      at = suc h.at;
      its_dedb = (let i = h.its_dedb in omega (arith, i));
      defined = h.defined;
      is_place = h.is_place;
      there = h.there;
    }
among_own dedb d ds (a ∷ own) all rest zero place e = record {
  area = a;
  def = d;
  at = 0;
  its_dedb = (let i = all.0 in omega (arith, i));
  defined = refl;
  is_place = sym (same_Some (place_of d a) place e);
  there = refl;
}
among_own dedb d ds (a ∷ own) all rest (suc n) place e =
    let h = among_own dedb d ds own all.1 rest n place e in
    record {
      area = h.area;
      def = h.def;
      at = h.at;
      its_dedb = h.its_dedb;
      defined = h.defined;
      is_place = h.is_place;
      there = h.there;
    }

one_dedb : (dedb number before : ℕ) (areas : List AreaDef)
    → AllByRecursion (λ (a : Area). a.dedb ≡ dedb) (areas_from dedb number before areas)
one_dedb dedb number before [] = tt
one_dedb dedb number before (d ∷ ds) = (refl, one_dedb dedb (number + 1) (before + anchors_in d) ds)

among : (dedb : ℕ) (defs : List DedbDef) (n : ℕ) (place : Place) → slice_get (places_from dedb defs) n ≡ Some place
    → IsPlaceAmong dedb defs (areas_of_all dedb defs) n place
among dedb [] n place e = absurd (none-some place e)
among dedb (d ∷ ds) n place e =
    among_own dedb d ds (areas_from dedb 0 0 d.areas) (one_dedb dedb 0 0 d.areas) (among (dedb + 1) ds) n place e

-- ---- a data set that is an area

pub record IsAreaOf (defs : Defs) (set : ℕ) (place : Place) : Type 0 where
  pub area : Area
  pub def : DedbDef
  pub defined : slice_get defs.dedbs area.dedb ≡ Some def
  pub is_place : place ≡ place_of def area
  pub is_area : nat_lt set first_area_set ≡ false
  pub there : slice_get (areas_of defs) (set - first_area_set) ≡ Some area

pub area_of_place : (defs : Defs) (set : ℕ) (place : Place) → place_at (places_of defs) set ≡ Some place
    → IsAreaOf defs set place
area_of_place defs set place e = by (nat_lt set first_area_set) refl e
  where
    by : (b : Bool) → nat_lt set first_area_set ≡ b
        → (if b then None else slice_get (places_of defs) (set - first_area_set)) ≡ Some place
        → IsAreaOf defs set place
    by true is e = absurd (none-some place e)
    by false is e =
        let h = among 0 defs.dedbs (set - first_area_set) place e in
        record {
          area = h.area;
          def = h.def;
          defined = subst (λ (k : ℕ). slice_get defs.dedbs k ≡ Some h.def)
              (let i = h.its_dedb in omega (arith, i)) h.defined;
          is_place = h.is_place;
          is_area = is;
          there = h.there;
        }

-- ---- no area stands twice

-- of the areas of a database from one on and those of later databases, one has a greater number, or is of a later
-- database
later : (dedb number before : ℕ) (areas : List AreaDef) (ds : List DedbDef) (a : Area)
    → Contains (areas_from dedb number before areas ++ areas_of_all (dedb + 1) ds) a → a.dedb ≡ dedb
    → number ≤ a.number
later dedb number before areas ds a c e =
    elim (Contains-append_cases (areas_from dedb number before areas) (areas_of_all (dedb + 1) ds) a c) [
      | inl own ↦ (let i = (placed dedb number before areas a own).its_number in omega (arith, i))
      | inr other ↦ (let i = (database (dedb + 1) ds a other).its_dedb in absurd (omega (arith, i, e)))
    ]

-- two at different numbers differ in their databases or in their numbers
pub apart_areas : (dedb number before : ℕ) (areas : List AreaDef) (ds : List DedbDef) (n m : ℕ) (a b : Area)
    → slice_get (areas_from dedb number before areas ++ areas_of_all (dedb + 1) ds) n ≡ Some a
    → slice_get (areas_from dedb number before areas ++ areas_of_all (dedb + 1) ds) m ≡ Some b → a.dedb ≡ b.dedb
    → a.number ≡ b.number → n ≡ m
apart_areas dedb number before [] [] n m a b p q d e = absurd (none-some a p)
apart_areas dedb number before [] (f ∷ ds) n m a b p q d e =
    apart_areas (dedb + 1) 0 0 f.areas ds n m a b p q d e
apart_areas dedb number before (f ∷ areas) ds zero zero a b p q d e = refl
apart_areas dedb number before (f ∷ areas) ds zero (suc m) a b p q d e =
    let first : Area = record { dedb = dedb; number = number; first_anchor = before; def = f } in
    let same : first ≡ a = same_Some first a p in
    let there =
    get_contains (areas_from dedb (number + 1) (before + anchors_in f) areas ++ areas_of_all (dedb + 1) ds) m b q in
    let d1 : dedb ≡ a.dedb = ap (λ (x : Area). x.dedb) same in
    let n1 : number ≡ a.number = ap (λ (x : Area). x.number) same in
    let more = later dedb (number + 1) (before + anchors_in f) areas ds b there (sym d ∙ sym d1) in
    absurd (omega (arith, n1, e, more))
apart_areas dedb number before (f ∷ areas) ds (suc n) zero a b p q d e =
    let first : Area = record { dedb = dedb; number = number; first_anchor = before; def = f } in
    let same : first ≡ b = same_Some first b q in
    let there =
    get_contains (areas_from dedb (number + 1) (before + anchors_in f) areas ++ areas_of_all (dedb + 1) ds) n a p in
    let d1 : dedb ≡ b.dedb = ap (λ (x : Area). x.dedb) same in
    let n1 : number ≡ b.number = ap (λ (x : Area). x.number) same in
    let more = later dedb (number + 1) (before + anchors_in f) areas ds a there (d ∙ sym d1) in
    absurd (omega (arith, n1, e, more))
apart_areas dedb number before (f ∷ areas) ds (suc n) (suc m) a b p q d e =
    ap suc (apart_areas dedb (number + 1) (before + anchors_in f) areas ds n m a b p q d e)

pub one_number : (ds : List DedbDef) (n m : ℕ) (a b : Area) → slice_get (areas_of_all 0 ds) n ≡ Some a
    → slice_get (areas_of_all 0 ds) m ≡ Some b → a.dedb ≡ b.dedb → a.number ≡ b.number → n ≡ m
one_number [] n m a b p q d e = absurd (none-some a p)
one_number (f ∷ ds) n m a b p q d e = apart_areas 0 0 0 f.areas ds n m a b p q d e

-- ---- one area has an anchor

is_dedb : (a : Area) (dedb anchor : ℕ) → has_anchor a dedb anchor ≡ true → a.dedb ≡ dedb
is_dedb a dedb anchor e = grind (arith, nat_tests)

-- two that have the same anchor are the same
pub one_taker : (defs : List DedbDef) (a b : Area) (i : SeqInsert) → Contains (areas_of_all 0 defs) a
    → Contains (areas_of_all 0 defs) b → takes a i ≡ true → takes b i ≡ true → a ≡ b
one_taker defs a b i ca cb ta tb =
    let da = is_dedb a i.dedb i.anchor ta in
    let db = is_dedb b i.dedb i.anchor tb in
    let la = lies_in a i.dedb i.anchor ta in
    let lb = lies_in b i.dedb i.anchor tb in
    let ha = database 0 defs a ca in
    let hb = database 0 defs b cb in
    let at : hb.place ≡ ha.place = (let x = ha.its_dedb in let y = hb.its_dedb in omega (arith, da, db, x, y)) in
    let def_at : slice_get defs ha.place ≡ Some hb.def =
    subst (λ (k : ℕ). slice_get defs k ≡ Some hb.def) at hb.its_def in
    let def_is : hb.def ≡ ha.def = same_Some hb.def ha.def (sym def_at ∙ ha.its_def) in
    let there : Contains (areas_from a.dedb 0 0 hb.def.areas) b =
    subst (λ (n : ℕ). Contains (areas_from n 0 0 hb.def.areas) b) (db ∙ sym da) hb.there in
    let there2 : Contains (areas_from a.dedb 0 0 ha.def.areas) b =
    subst (λ (d : DedbDef). Contains (areas_from a.dedb 0 0 d.areas) b) def_is there in
    elim (same_or_apart a.dedb 0 0 ha.def.areas a b ha.there there2) [
      | inl same ↦ same
      | inr apart ↦ elim (lies_outside a b i.anchor apart lb) [
        | inl before ↦ (let l = la.low in absurd (omega (arith, before, l)))
        | inr behind ↦ (let h = la.high in absurd (omega (arith, behind, h)))
      ]
    ]
