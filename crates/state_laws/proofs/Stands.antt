-- What stands in a state: the area that has an anchor, an area's database and ends, and whether two areas are the same.
use Rattle.std.proofs.Common.{◌≡◌, ℕ, zero, suc, ◌+◌, ◌<◌, ◌≤◌, List, [], ◌∷◌, length, Some, refl, sym, ◌∙◌, subst, Bool, true, false, ◌&&◌, ◌==◌, nat_le, nat_lt, slice_get, arith, inl, inr}
use Rattle.std.specs.Prelude.{Contains, find, if◌then◌else◌, sum_by}
use Rattle.std.specs.List.{AllByRecursion}
use Rattle.std.proofs.lemmas.Bool.Decides.{nat_tests}
use Rattle.std.proofs.lemmas.List.Sums.{sum_by-cons}
use Rattle.fp_model.specs.declared.database.AreaEnds.{AreaEnds}
use Rattle.fp_model.specs.declared.database.Db.{Db}
use Rattle.fp_model.specs.declared.database.Dedb.{Dedb}
use Rattle.fp_model.specs.declared.definitions.AreaDef.{AreaDef}
use Rattle.fp_model.specs.declared.definitions.DedbDef.{DedbDef}
use Rattle.fp_model.specs.declared.definitions.Defs.{Defs}
use Rattle.fp_model.specs.Commit.{ends_at}
use Rattle.fp_model.specs.Shape.{IsDbOf, IsDedbOf, are_ends}
use Rattle.fp_model.specs.State.{Area, anchors_in, areas_from, areas_of, areas_of_all, has_anchor}
use Rattle.state_laws.proofs.Areas.{alone, alone_there, database, placed, same_or_apart}
use Rattle.state_laws.proofs.Lists.{each_at}
use Rattle.state_laws.proofs.Purging.{partner}
use Rattle.std.proofs.lemmas.Bool.{and_from}
use Rattle.plain_laws.proofs.Alls.{contains_cases, contains_first, contains_later, contains_nothing}
use Rattle.plain_laws.proofs.Numbers.{is_le}
use Rattle.std.proofs.lemmas.Option.{same_Some}

-- ---- lists

pub all_contained : {X : Type 0} (P : X → Type 0) (xs : List X) (x : X) → AllByRecursion P xs → Contains xs x → P x
all_contained P [] x all c = absurd (contains_nothing x c)
all_contained P (y ∷ ys) x all c = elim (contains_cases y ys x c) [
  | inl same ↦ subst P same all.0
  | inr there ↦ all_contained P ys x all.1 there
]

-- ---- the areas of one database

-- an area ends within its database
pub ends_within : (dedb number before : ℕ) (areas : List AreaDef) (a : Area)
    → Contains (areas_from dedb number before areas) a
    → a.first_anchor + anchors_in a.def ≤ before + sum_by anchors_in areas
ends_within dedb number before [] a c = absurd (contains_nothing a c)
ends_within dedb number before (d ∷ ds) a c =
    elim (contains_cases _ (areas_from dedb (number + 1) (before + anchors_in d) ds) a c) [
      | inl same ↦
          subst (λ (x : Area). x.first_anchor + anchors_in x.def ≤ before + sum_by anchors_in (d ∷ ds)) same
          (omega (arith, sum_by-cons anchors_in d ds))
      | inr there ↦
          let later = ends_within dedb (number + 1) (before + anchors_in d) ds a there in
          omega (arith, later, sum_by-cons anchors_in d ds)
    ]

-- an area that has an anchor
pub record HasArea (dedb number before : ℕ) (areas : List AreaDef) (anchor : ℕ) : Type 0 where
  pub area : Area
  pub there : Contains (areas_from dedb number before areas) area
  pub has : has_anchor area dedb anchor ≡ true

pub area_of_anchor : (dedb number before : ℕ) (areas : List AreaDef) (anchor : ℕ) → before ≤ anchor
    → anchor < before + sum_by anchors_in areas → HasArea dedb number before areas anchor
area_of_anchor dedb number before [] anchor low high = absurd (omega (arith, low, high))
area_of_anchor dedb number before (d ∷ ds) anchor low high =
    by (nat_lt anchor (before + anchors_in d)) refl
    (area_of_anchor dedb (number + 1) (before + anchors_in d) ds anchor)
  where
    first : Area
    first = record { dedb = dedb; number = number; first_anchor = before; def = d }

    is_number : (a : ℕ) → (a == a) ≡ true
    is_number a = grind arith

    not_less : (m n : ℕ) → nat_lt m n ≡ false → n ≤ m
    not_less m n e = grind (arith, nat_tests)

    by : (b : Bool) → nat_lt anchor (before + anchors_in d) ≡ b
        → (before + anchors_in d ≤ anchor → anchor < before + anchors_in d + sum_by anchors_in ds
        → HasArea dedb (number + 1) (before + anchors_in d) ds anchor)
        → HasArea dedb number before (d ∷ ds) anchor
    by true is later = record {
      area = first;
      there = contains_first first (areas_from dedb (number + 1) (before + anchors_in d) ds);
      has = and_from (dedb == dedb && nat_le before anchor) (nat_lt anchor (before + anchors_in d))
          (and_from (dedb == dedb) (nat_le before anchor) (is_number dedb) (is_le before anchor low)) is;
    }
    by false is later =
        let h = later (not_less anchor (before + anchors_in d) is) (omega (arith, high, sum_by-cons anchors_in d ds)) in
        record {
          area = h.area;
          there = contains_later first (areas_from dedb (number + 1) (before + anchors_in d) ds) h.area h.there;
          has = h.has;
        }

-- ---- the areas of a state

-- two areas of one number in one database are the same
pub same_area : (defs : List DedbDef) (a b : Area) → Contains (areas_of_all 0 defs) a
    → Contains (areas_of_all 0 defs) b → a.dedb ≡ b.dedb → a.number ≡ b.number → a ≡ b
same_area defs a b ca cb dedb number =
    let ha = database 0 defs a ca in
    let hb = database 0 defs b cb in
    let place : hb.place ≡ ha.place = omega (arith, ha.its_dedb, hb.its_dedb, dedb) in
    let def_at : slice_get defs ha.place ≡ Some hb.def =
    subst (λ (k : ℕ). slice_get defs k ≡ Some hb.def) place hb.its_def in
    let def_is : hb.def ≡ ha.def = same_Some hb.def ha.def (sym def_at ∙ ha.its_def) in
    let there : Contains (areas_from a.dedb 0 0 hb.def.areas) b =
    subst (λ (n : ℕ). Contains (areas_from n 0 0 hb.def.areas) b) (sym dedb) hb.there in
    let there2 : Contains (areas_from a.dedb 0 0 ha.def.areas) b =
    subst (λ (d : DedbDef). Contains (areas_from a.dedb 0 0 d.areas) b) def_is there in
    elim (same_or_apart a.dedb 0 0 ha.def.areas a b ha.there there2) [
      | inl same ↦ same
      | inr apart ↦ absurd (apart.numbers number)
    ]

-- the ends of an area, where its database stands
pub ends_in : (db : Db) (area : Area) (d : Dedb) (ends : AreaEnds) → slice_get db.dedbs area.dedb ≡ Some d
    → slice_get d.areas area.number ≡ Some ends → ends_at db area ≡ ends
ends_in db area d ends at its = rw at (rw its refl)

-- What stands at an area: its database, with its definition, and its ends.
pub record AtArea (defs : Defs) (db : Db) (area : Area) : Type 0 where
  pub def : DedbDef
  pub dedb : Dedb
  pub ends : AreaEnds
  pub defined : slice_get defs.dedbs area.dedb ≡ Some def
  pub now : slice_get db.dedbs area.dedb ≡ Some dedb
  pub good : IsDedbOf def dedb
  pub there : Contains (areas_from 0 0 0 def.areas) (alone area)
  pub ends_now : slice_get dedb.areas area.number ≡ Some ends
  pub ends_are : ends_at db area ≡ ends

pub at_area : (defs : Defs) (db : Db) → IsDbOf defs db → (area : Area) → Contains (areas_of defs) area
    → AtArea defs db area
at_area defs db good area c =
    let h = database 0 defs.dedbs area c in
    let same : h.place ≡ area.dedb = omega (arith, h.its_dedb) in
    let def_at : slice_get defs.dedbs area.dedb ≡ Some h.def =
    subst (λ (k : ℕ). slice_get defs.dedbs k ≡ Some h.def) same h.its_def in
    let d = partner IsDedbOf defs.dedbs db.dedbs area.dedb h.def good.dedbs def_at in
    let d_good = each_at IsDedbOf defs.dedbs db.dedbs area.dedb h.def d.0 good.dedbs def_at d.1 in
    let its = alone_there area.dedb 0 0 h.def.areas area h.there in
    let p = placed 0 0 0 h.def.areas (alone area) its in
    let place : p.place ≡ area.number = omega (arith, p.its_number) in
    let area_at : slice_get h.def.areas area.number ≡ Some area.def =
    subst (λ (k : ℕ). slice_get h.def.areas k ≡ Some area.def) place p.its_def in
    let e = partner (λ area ends. are_ends area.capacity ends ≡ true) h.def.areas d.0.areas area.number area.def
    d_good.areas area_at in
    record {
      def = h.def;
      dedb = d.0;
      ends = e.0;
      defined = def_at;
      now = d.1;
      good = d_good;
      there = its;
      ends_now = e.1;
      ends_are = ends_in db area d.0 e.0 d.1 e.1;
    }
