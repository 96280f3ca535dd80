-- Area by area: what each has makes what all have.
use Rattle.std.proofs.Common.{◌≡◌, ◌≢◌, inl, inr, ℕ, ◌+◌, ◌-◌, List, [], ◌∷◌, length, Some, refl, sym, ◌∙◌, ap, subst, arith}
use Rattle.std.specs.Prelude.{min}
use Rattle.std.specs.List.{AllByRecursion}
use Rattle.std.proofs.lemmas.Bool.{cases_eq}
use Rattle.fp_model.specs.declared.calls.AnchorChange.{AnchorChange}
use Rattle.fp_model.specs.declared.calls.SeqInsert.{SeqInsert}
use Rattle.fp_model.specs.declared.database.AreaEnds.{AreaEnds}
use Rattle.fp_model.specs.declared.database.Db.{Db}
use Rattle.fp_model.specs.declared.definitions.Defs.{Defs}
use Rattle.fp_model.specs.Commit.{ends_at, purged, purged_area, with_anchors, with_insert, with_inserts}
use Rattle.fp_model.specs.Shape.{IsDbOf}
use Rattle.fp_model.specs.State.{areas_of, first_area_set}
use Rattle.area_redo.specs.Redo.{AreaBytes}
use Rattle.area_states.specs.declared.place.Place.{Place}
use Rattle.area_states.specs.Places.{layout_of, place_at, place_of, places_of}
use Rattle.area_states.specs.States.{HasState, SameState}
use Rattle.area_states.specs.Changes.{purged as purged_here, with_changes, with_inserts as with_inserts_here}
use Rattle.area_states.specs.Databases.{AreFor, HasAnchorOf, area_in, state_of}
use Rattle.area_states.proofs.StateLemmas.{same_state}
use Rattle.state_laws.proofs.Stands.{at_area}
use Rattle.area_laws.specs.Areas.{HasArea, HasAreas, area_count}
use Rattle.area_laws.proofs.DedbLemmas.{count_in, ends_keep_count}
use Rattle.area_laws.proofs.InsertLemmas.{all_done, changes_keep_area, insert_keeps_area}
use Rattle.area_laws.proofs.PlaceLemmas.{area_of_place}
use Rattle.area_laws.proofs.PurgeLemmas.{after, count_stays, purge_elsewhere, purge_here, purge_of}
use Rattle.std.proofs.lemmas.Option.{slice_get_within}
use Rattle.plain_laws.proofs.Alls.{get_contains}

-- ---- a commit

pub done_in_area : (defs : Defs) (set : ℕ) (place : Place) (changes : List AnchorChange) (inserts : List SeqInsert)
    (db : Db) → place_at (places_of defs) set ≡ Some place → HasArea db place
    → AllByRecursion (HasAnchorOf db) changes
    → SameState place (with_inserts_here place inserts (with_changes place changes (state_of place db)))
    (state_of place (with_inserts defs inserts (with_anchors changes db)))
done_in_area defs set place changes inserts db at has have =
    let a = area_of_place defs set place at in
    let there = get_contains (areas_of defs) (set - first_area_set) a.area a.there in
    subst (λ (p : Place). SameState p (with_inserts_here p inserts (with_changes p changes (state_of p db)))
    (state_of p (with_inserts defs inserts (with_anchors changes db)))) (sym a.is_place)
    (all_done defs a.area a.def there a.defined changes inserts db (subst (HasArea db) a.is_place has) have)

pub done_in_areas : (defs : Defs) (bytes : AreaBytes) (changes : List AnchorChange) (inserts : List SeqInsert) (db : Db)
    → HasAreas db (places_of defs) → AllByRecursion (HasAnchorOf db) changes
    → ((set : ℕ) (place : Place) → place_at (places_of defs) set ≡ Some place
    → HasState place (area_in (layout_of (places_of defs)) bytes set)
    (with_inserts_here place inserts (with_changes place changes (state_of place db))))
    → AreFor (places_of defs) bytes (with_inserts defs inserts (with_anchors changes db))
done_in_areas defs bytes changes inserts db has have each set place at =
    same_state place (area_in (layout_of (places_of defs)) bytes set)
    (with_inserts_here place inserts (with_changes place changes (state_of place db)))
    (state_of place (with_inserts defs inserts (with_anchors changes db))) (each set place at)
    (done_in_area defs set place changes inserts db at (has set place at) have)

-- ---- a Purge

pub purged_in_areas : (defs : Defs) (set n : ℕ) (db new : Db) (bytes : AreaBytes) → purged defs set n db ≡ Some new
    → HasAreas db (places_of defs)
    → ((place : Place) → place_at (places_of defs) set ≡ Some place
    → HasState place (area_in (layout_of (places_of defs)) bytes set) (purged_here n (state_of place db)))
    → ((other : ℕ) (place : Place) → other ≢ set → place_at (places_of defs) other ≡ Some place
    → HasState place (area_in (layout_of (places_of defs)) bytes other) (state_of place db))
    → AreFor (places_of defs) bytes new
purged_in_areas defs set n db new bytes e has own others k place at = elim (cases_eq k set) [
  | inl same ↦
      let here : place_at (places_of defs) set ≡ Some place =
      subst (λ (s : ℕ). place_at (places_of defs) s ≡ Some place) same at in
      subst (λ (s : ℕ). HasState place (area_in (layout_of (places_of defs)) bytes s) (state_of place new)) (sym same)
      (same_state place (area_in (layout_of (places_of defs)) bytes set) (purged_here n (state_of place db))
      (state_of place new) (own place here) (purge_here defs set n db new place e here (has set place here)))
  | inr ne ↦
      same_state place (area_in (layout_of (places_of defs)) bytes k) (state_of place db) (state_of place new)
      (others k place ne at) (purge_elsewhere defs set n db new k place e ne at)
]

-- ---- the areas of databases

pub databases_have : (defs : Defs) (db : Db) → IsDbOf defs db → HasAreas db (places_of defs)
databases_have defs db good set place at =
    let a = area_of_place defs set place at in
    let there = get_contains (areas_of defs) (set - first_area_set) a.area a.there in
    let x = at_area defs db good a.area there in
    let low = slice_get_within x.dedb.areas a.area.number x.ends x.ends_now in
    let counts : area_count db a.area.dedb ≡ length x.dedb.areas = ap count_in x.now in
    let has : HasArea db (place_of a.def a.area) = omega (arith, low, counts) in
    subst (HasArea db) (sym a.is_place) has

inserts_keep : (defs : Defs) (inserts : List SeqInsert) (db : Db) (dedb : ℕ)
    → area_count (with_inserts defs inserts db) dedb ≡ area_count db dedb
inserts_keep defs [] db dedb = refl
inserts_keep defs (i ∷ inserts) db dedb =
    inserts_keep defs inserts (with_insert defs db i) dedb ∙ insert_keeps_area defs db i dedb

pub commits_keep : (defs : Defs) (places : List Place) (changes : List AnchorChange) (inserts : List SeqInsert)
    (db : Db) → HasAreas db places → HasAreas (with_inserts defs inserts (with_anchors changes db)) places
commits_keep defs places changes inserts db has set place at =
    let low = has set place at in
    let a = inserts_keep defs inserts (with_anchors changes db) place.dedb in
    let b = changes_keep_area changes db place.dedb in
    omega (arith, low, a, b)

pub purges_keep : (defs : Defs) (places : List Place) (set n : ℕ) (db new : Db) → purged defs set n db ≡ Some new
    → HasAreas db places → HasAreas new places
purges_keep defs places set n db new e has k place at =
    let low = has k place at in
    let p = purge_of defs set n db new e in
    let ends : AreaEnds = ends_at db p.area in
    let begin : ℕ = min ends.end (ends.begin + n) in
    let a = ends_keep_count p.area (record ends { begin = begin }) (after p.area begin db) place.dedb in
    let b = count_stays p.area begin db place.dedb in
    let c : area_count new place.dedb ≡ area_count (purged_area p.area n db) place.dedb =
    ap (λ (d : Db). area_count d place.dedb) p.is_new in
    omega (arith, low, a, b, c)
