-- A commit that is staged is that of the databases.
use Rattle.std.proofs.Common.{◌≡◌, ℕ, ◌+◌, ◌-◌, ◌<◌, ◌≤◌, Bool, true, List, [], ◌∷◌, length, refl, sym, ◌∙◌, ap, subst, arith}
use Rattle.std.specs.List.{AllByRecursion}
use Rattle.std.specs.Prelude.{None, Some}
use Rattle.fp_model.specs.Commit.{FillsPart, first_full, with_anchors, with_inserts}
use Rattle.fp_model.specs.Items.{begins_with_image}
use Rattle.fp_model.specs.State.{areas_of, first_area_set, roots_at}
use Rattle.fp_model.specs.declared.calls.AnchorChange.{AnchorChange}
use Rattle.fp_model.specs.declared.calls.SeqInsert.{SeqInsert}
use Rattle.fp_model.specs.declared.database.Db.{Db}
use Rattle.fp_model.specs.declared.definitions.Defs.{Defs}
use Rattle.fp_model.specs.declared.log.Item.{Item}
use Rattle.fp_site.specs.Disk.{Disk}
use Rattle.ci_pool.specs.Held.{Held}
use Rattle.area_redo.specs.Redo.{AreaBytes, redone}
use Rattle.area_redo.specs.Standing.{Way, behind}
use Rattle.area_states.specs.declared.place.Place.{Place}
use Rattle.area_states.specs.Databases.{AreFor, area_in, state_of, HasAnchorOf}
use Rattle.area_states.specs.Places.{layout_of, place_at, places_of, has_anchor}
use Rattle.area_states.specs.States.{HasState}
use Rattle.std.proofs.lemmas.Bool.Decides.{nat_tests}
use Rattle.root_changes.specs.Differing.{RootsDiffer}
use Rattle.area_laws.proofs.AnchorAreas.{anchor_area, one_area}
use Rattle.area_laws.proofs.Areawise.{databases_have, done_in_areas}
use Rattle.dedb_area.proofs.Ones.{concerned_by}
use Rattle.area_laws.proofs.FormLemmas.{orders_brought}
use Rattle.area_laws.proofs.FullLemmas.{first_is_full, none_is_full}
use Rattle.area_laws.proofs.OrderLemmas.{changed_order, fit_changes_keep_lists, shaped_order}
use Rattle.area_staging.specs.Items.{is_imaged}
use Rattle.dedb_area.specs.Anchors.{AreInTime, CountsIntervals}
use Rattle.dedb_area.specs.Appending.{MayEnter}
use Rattle.dedb_area.specs.Committing.{FitsCommit, committed, is_concerned}
use Rattle.dedb_area.specs.inside.Committing.{AreStagedUpTo, FitAreas, IsFirstFull, OneSegmentChanges}
use Rattle.dedb_area.specs.Control.{IsControl}
use Rattle.dedb_area.specs.Standing.{AreasStand, Holding}
use Rattle.dedb_area.proofs.AnchorLemmas.{counted_area, first_bytes, some_counted, state_here, within_areas}

-- ---- what fits databases fits each area

pub fit_areas : (defs : Defs) (places : List Place) (db : Db) (changes : List AnchorChange) (inserts : List SeqInsert)
    → places ≡ places_of defs → FitsCommit defs db changes inserts → FitAreas places db changes
fit_areas defs places db changes inserts e fits set place is =
    let there : place_at (places_of defs) set ≡ Some place = ap (λ ps. place_at ps set) (sym e) ∙ is in
    record {
      lists = fit_changes_keep_lists defs db place changes fits.anchors fits.there fits.in_order;
      ordered = changed_order place changes (state_of place db) (shaped_order defs set place db fits.shaped there)
          (orders_brought defs set place db changes there fits.anchors);
    }

-- ---- the databases behind it

module _ (defs : Defs) (places : List Place) (imaged : ℕ → ℕ → Bool) (newest : AreaBytes) (changes : List AnchorChange)
    (inserts : List SeqInsert) (db : Db) (items : List Item) (pool : Held) (e : places ≡ places_of defs)
    (fits : FitsCommit defs db changes inserts)
    (all : AreStagedUpTo places (length places) imaged newest changes inserts db items pool) where
  within : (set : ℕ) (place : Place) → place_at places set ≡ Some place → set < first_area_set + length places
  within set place is = let w = within_areas places set place is in omega (arith, w.0, w.1)

  each : (set : ℕ) (place : Place) → place_at places set ≡ Some place
      → HasState place (area_in (layout_of places) (redone items newest) set)
      (committed place changes inserts (state_of place db))
  each set place is =
      subst (λ area. HasState place area (committed place changes inserts (state_of place db)))
      (sym (counted_area places (redone items newest) set place is)) (all.has set place is (within set place is))

  pub for_committed : AreFor places (redone items newest) (with_inserts defs inserts (with_anchors changes db))
  for_committed =
      subst (λ ps. AreFor ps (redone items newest) (with_inserts defs inserts (with_anchors changes db))) (sym e)
      (done_in_areas defs (redone items newest) changes inserts db (databases_have defs db fits.shaped) fits.there
      (subst (λ ps. (set : ℕ) (place : Place) → place_at ps set ≡ Some place
      → HasState place (area_in (layout_of ps) (redone items newest) set)
      (committed place changes inserts (state_of place db))) e each))

  -- no area is too full
  pub none_full : first_full db inserts first_area_set (areas_of defs) ≡ None
  none_full = none_is_full defs db inserts (λ set place is.
      (let there : place_at places set ≡ Some place = ap (λ ps. place_at ps set) e ∙ is in
      all.room set place there (within set place there)))

-- the first that is
pub fills_first : (defs : Defs) (places : List Place) (db : Db) (inserts : List SeqInsert) (set begin end n : ℕ)
    → places ≡ places_of defs → IsFirstFull places db inserts set begin end n
    → first_full db inserts first_area_set (areas_of defs) ≡ Some (FillsPart set begin end n)
fills_first defs places db inserts set begin end n e full =
    first_is_full defs db inserts set full.place begin end n
    (ap (λ ps. place_at ps set) (sym e) ∙ full.is_place)
    (λ earlier other lt is. full.first earlier other (ap (λ ps. place_at ps earlier) e ∙ is) lt) full.too_full

-- an entry with these items may enter
pub may_enter : (way : Way) (bytes : AreaBytes) (disk : Disk) (areas : Holding) (changes : List AnchorChange)
    (inserts : List SeqInsert) (db : Db) (items : List Item) (pool : Held) → AreasStand way bytes disk areas
    → AreStagedUpTo areas.places (length areas.places) (is_imaged areas.imaged) (behind way.unsealed bytes) changes
    inserts db items pool
    → MayEnter way bytes areas items
may_enter way bytes disk areas changes inserts db items pool stands all = record {
  begins = λ e is set ci none.
      subst (λ l. begins_with_image set ci l ≡ true) (sym is) (all.images set ci (stands.imaged set ci ∙ none));
  grow = all.grow;
}

-- ---- nothing is damaged

-- control of an area that stands for databases counts its intervals
pub counts_in_time : (places : List Place) (bytes : AreaBytes) (db : Db) (set : ℕ) (place : Place)
    → AreFor places bytes db → AreInTime places bytes → place_at places set ≡ Some place
    → CountsIntervals place (bytes set 0)
counts_in_time places bytes db set place are ends is =
    let state = state_here places bytes db set place are is in
    let first = first_bytes _ (bytes set) (some_counted place (bytes set 0)) in
    record {
      is_control = subst IsControl first (record {
        is_interval = state.whole.control.is_control.is_interval;
        is_kind = state.whole.control.is_control.is_kind;
      });
      ends = ends set place is;
    }

-- ---- one segment

number_of : (place : Place) (dedb anchor : ℕ) → has_anchor place dedb anchor ≡ true
    → (place.dedb ≡ dedb) × (place.first_anchor + (anchor - place.first_anchor) ≡ anchor)
number_of place dedb anchor is =
    let low : place.first_anchor ≤ anchor = grind (arith, nat_tests) in
    (grind (arith, nat_tests), omega (arith, low))

concerned_has : (place : Place) (c : AnchorChange) → has_anchor place c.dedb c.anchor ≡ true
    → is_concerned place (c ∷ []) [] ≡ true
concerned_has place c is = rw is refl

pub one_segment : (defs : Defs) (places : List Place) (db : Db) (changes : List AnchorChange) (inserts : List SeqInsert)
    (c : AnchorChange) → places ≡ places_of defs → FitsCommit defs db changes inserts → changes ≡ c ∷ []
    → inserts ≡ [] → RootsDiffer (roots_at db c.dedb c.anchor) c.roots → OneSegmentChanges places db changes inserts
one_segment defs places db changes inserts c e fits only none differs =
    let there = (subst (AllByRecursion (HasAnchorOf db)) only fits.there).0 in
    let area = anchor_area defs db c fits.shaped there in
    let as_one : (place : Place) → is_concerned place changes inserts ≡ is_concerned place (c ∷ []) [] =
    λ place. ap (λ cs. is_concerned place cs inserts) only ∙ ap (is_concerned place (c ∷ [])) none in
    record {
      each = λ set place is. record {
        change = c;
        only = only;
        no_insert = none;
        ordered = shaped_order defs set place db fits.shaped (ap (λ ps. place_at ps set) (sym e) ∙ is);
        differs = λ has.
            let n = number_of place c.dedb c.anchor has in
            subst (λ d. RootsDiffer (roots_at db d (place.first_anchor + (c.anchor - place.first_anchor))) c.roots)
            (sym n.0) (subst (λ a. RootsDiffer (roots_at db c.dedb a) c.roots) (sym n.1) differs);
      };
      set = area.set;
      place = area.place;
      is_place = ap (λ ps. place_at ps area.set) e ∙ area.is_place;
      concerned = as_one area.place ∙ concerned_has area.place c area.has;
      alone = λ other next is concerned.
          one_area defs other area.set next area.place c.dedb c.anchor (ap (λ ps. place_at ps other) (sym e) ∙ is)
          area.is_place (concerned_by next c (sym (as_one next) ∙ concerned)) area.has;
    }
