-- An anchor of a database lies in one area.
use Rattle.std.proofs.Common.{◌≡◌, ℕ, zero, suc, ◌+◌, ◌-◌, true, false, List, [], ◌∷◌, ◌++◌, Some, refl, sym, ◌∙◌, ap, subst, arith}
use Rattle.std.specs.Prelude.{Contains, nat_lt, slice_get}
use Rattle.std.specs.List.{AllZip}
use Rattle.std.proofs.lemmas.Bool.Decides.{nat_tests}
use Rattle.std.proofs.lemmas.Option.{slice_get-get_or, none-some, same_Some}
use Rattle.fp_model.specs.declared.calls.AnchorChange.{AnchorChange}
use Rattle.fp_model.specs.declared.calls.SeqInsert.{SeqInsert}
use Rattle.fp_model.specs.declared.database.Db.{Db}
use Rattle.fp_model.specs.declared.database.Dedb.{Dedb}
use Rattle.fp_model.specs.declared.definitions.DedbDef.{DedbDef}
use Rattle.fp_model.specs.declared.definitions.Defs.{Defs}
use Rattle.fp_model.specs.Shape.{IsDbOf, IsDedbOf}
use Rattle.fp_model.specs.State.{Area, areas_from, areas_of, areas_of_all, first_area_set, has_anchor as area_has_anchor}
use Rattle.area_states.specs.declared.place.Place.{Place}
use Rattle.area_states.specs.Places.{has_anchor, place_at, place_of, places_of}
use Rattle.area_states.specs.Databases.{HasAnchorOf}
use Rattle.state_laws.proofs.Stands.{area_of_anchor}
use Rattle.area_laws.proofs.PlaceLemmas.{area_of_place, one_number, one_taker}
use Rattle.area_laws.proofs.PurgeLemmas.{placed_among}
use Rattle.plain_laws.proofs.Alls.{get_contains}

-- ---- some area has it

contains_at : {X : Type 0} (xs : List X) (x : X) → Contains xs x → (k : ℕ) × (slice_get xs k ≡ Some x)
contains_at xs x c = (c.0, slice_get-get_or xs c.0 x c.1 ∙ ap Some c.2)

got_first : (own rest : List Area) (k : ℕ) (area : Area) → slice_get own k ≡ Some area
    → slice_get (own ++ rest) k ≡ Some area
got_first [] rest k area e = absurd (none-some area e)
got_first (a ∷ own) rest zero area e = e
got_first (a ∷ own) rest (suc k) area e = got_first own rest k area e

got_later : (own rest : List Area) (k : ℕ) (area : Area) → slice_get rest k ≡ Some area
    → (n : ℕ) × (slice_get (own ++ rest) n ≡ Some area)
got_later [] rest k area e = (k, e)
got_later (a ∷ own) rest k area e = let l = got_later own rest k area e in (suc l.0, l.1)

among_all : (dedb : ℕ) (ds : List DedbDef) (n : ℕ) (def : DedbDef) (area : Area) → slice_get ds n ≡ Some def
    → Contains (areas_from (dedb + n) 0 0 def.areas) area
    → (k : ℕ) × (slice_get (areas_of_all dedb ds) k ≡ Some area)
among_all dedb [] n def area e c = absurd (none-some def e)
among_all dedb (d ∷ ds) zero def area e c =
    let same : d ≡ def = same_Some d def e in
    let number : dedb + 0 ≡ dedb = omega arith in
    let here : Contains (areas_from dedb 0 0 d.areas) area =
    subst (λ (n : ℕ). Contains (areas_from n 0 0 d.areas) area) number
    (subst (λ (x : DedbDef). Contains (areas_from (dedb + 0) 0 0 x.areas) area) (sym same) c) in
    let at = contains_at (areas_from dedb 0 0 d.areas) area here in
    (at.0, got_first (areas_from dedb 0 0 d.areas) (areas_of_all (dedb + 1) ds) at.0 area at.1)
among_all dedb (d ∷ ds) (suc n) def area e c =
    let number : dedb + suc n ≡ dedb + 1 + n = omega arith in
    let later = among_all (dedb + 1) ds n def area e
    (subst (λ (m : ℕ). Contains (areas_from m 0 0 def.areas) area) number c) in
    got_later (areas_from dedb 0 0 d.areas) (areas_of_all (dedb + 1) ds) later.0 area later.1

def_at : (defs : List DedbDef) (dedbs : List Dedb) (n : ℕ) (dedb : Dedb) → AllZip IsDedbOf defs dedbs
    → slice_get dedbs n ≡ Some dedb → (def : DedbDef) × (slice_get defs n ≡ Some def) × IsDedbOf def dedb
def_at [] [] n dedb all e = absurd (none-some dedb e)
def_at [] (b ∷ dedbs) n dedb all e = absurd all
def_at (d ∷ defs) [] n dedb all e = absurd all
def_at (d ∷ defs) (b ∷ dedbs) zero dedb all e = (d, refl, subst (IsDedbOf d) (same_Some b dedb e) all.0)
def_at (d ∷ defs) (b ∷ dedbs) (suc n) dedb all e = def_at defs dedbs n dedb all.1 e

pub record HasAnchorArea (places : List Place) (dedb anchor : ℕ) : Type 0 where
  pub set : ℕ
  pub place : Place
  pub is_place : place_at places set ≡ Some place
  pub has : has_anchor place dedb anchor ≡ true

pub anchor_area : (defs : Defs) (db : Db) (c : AnchorChange) → IsDbOf defs db → HasAnchorOf db c
    → HasAnchorArea (places_of defs) c.dedb c.anchor
anchor_area defs db c good there =
    let its = def_at defs.dedbs db.dedbs c.dedb there.dedb good.dedbs there.is_dedb in
    let long = its.2.anchors in
    let below = there.below in
    let area = area_of_anchor c.dedb 0 0 its.0.areas c.anchor (omega arith) (omega (arith, long, below)) in
    let number : c.dedb ≡ 0 + c.dedb = omega arith in
    let at = among_all 0 defs.dedbs c.dedb its.0 area.area its.1
    (subst (λ (n : ℕ). Contains (areas_from n 0 0 its.0.areas) area.area) number area.there) in
    let placed = placed_among 0 defs.dedbs at.0 area.area at.1 in
    let behind : nat_lt (first_area_set + at.0) first_area_set ≡ false = grind (arith, nat_tests) in
    let index : first_area_set + at.0 - first_area_set ≡ at.0 = omega arith in
    record {
      set = first_area_set + at.0;
      place = place_of placed.0 area.area;
      is_place = rw behind (ap (slice_get (places_of defs)) index ∙ placed.1);
      has = area.has;
    }

-- ---- and no other

pub one_area : (defs : Defs) (s t : ℕ) (p q : Place) (dedb anchor : ℕ) → place_at (places_of defs) s ≡ Some p
    → place_at (places_of defs) t ≡ Some q → has_anchor p dedb anchor ≡ true → has_anchor q dedb anchor ≡ true → s ≡ t
one_area defs s t p q dedb anchor at to h k =
    let a = area_of_place defs s p at in
    let b = area_of_place defs t q to in
    let i : SeqInsert = record { dedb = dedb; anchor = anchor; key = []; bytes = [] } in
    let ha : area_has_anchor a.area dedb anchor ≡ true =
    subst (λ (x : Place). has_anchor x dedb anchor ≡ true) a.is_place h in
    let hb : area_has_anchor b.area dedb anchor ≡ true =
    subst (λ (x : Place). has_anchor x dedb anchor ≡ true) b.is_place k in
    let same : a.area ≡ b.area =
    one_taker defs.dedbs a.area b.area i (get_contains (areas_of defs) (s - first_area_set) a.area a.there)
    (get_contains (areas_of defs) (t - first_area_set) b.area b.there) ha hb in
    let index : s - first_area_set ≡ t - first_area_set =
    one_number defs.dedbs (s - first_area_set) (t - first_area_set) a.area b.area a.there b.there
    (ap (λ (x : Area). x.dedb) same) (ap (λ (x : Area). x.number) same) in
    let low = a.is_area in
    let low2 = b.is_area in
    grind (arith, nat_tests, low, low2, index)
