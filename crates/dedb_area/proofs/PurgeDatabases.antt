-- What the item of a Purge makes of the newest bytes stands for the databases behind the Purge.
use Rattle.std.proofs.Common.{◌≡◌, ◌≢◌, inl, inr, ℕ, Bool, true, false, List, [], ◌∷◌, length, refl, sym, ◌∙◌, ap, subst}
use Rattle.std.specs.Prelude.{◌==◌, ◌&&◌, if◌then◌else◌, Option, Some, None}
use mathlib.Core.Path.{fun_ext}
use Rattle.std.proofs.lemmas.Bool.{cases_Bool}
use Rattle.fp_model.specs.Commit.{purged as purged_databases}
use Rattle.fp_model.specs.Shape.{IsDbOf}
use Rattle.fp_model.specs.declared.database.Db.{Db}
use Rattle.fp_model.specs.declared.definitions.Defs.{Defs}
use Rattle.fp_model.specs.declared.log.Item.{Item}
use Rattle.ci_pool.specs.Held.{Held}
use Rattle.area_redo.specs.Redo.{AreaBytes, redone, redone_at}
use Rattle.area_redo.proofs.Items.{redone_none}
use Rattle.area_states.specs.declared.place.Place.{Place}
use Rattle.area_states.specs.Changes.{purged}
use Rattle.area_states.specs.Databases.{AreFor, area_in, state_of}
use Rattle.area_states.specs.Places.{ArePlaces, layout_of, place_at, places_of}
use Rattle.area_states.specs.States.{HasState}
use Rattle.area_laws.proofs.Areawise.{databases_have, purged_in_areas}
use Rattle.area_staging.specs.Items.{IsChange, items_in}
use Rattle.area_staging.proofs.ItemLemmas.{names_item, names_one}
use Rattle.dedb_area.specs.Anchors.{intervals_of}
use Rattle.dedb_area.specs.Purging.{IsPurgeStaged, with_control}
use Rattle.dedb_area.proofs.AnchorLemmas.{counted_area, state_here}
use Rattle.dedb_area.proofs.Data.{place_there}
use Rattle.dedb_area.proofs.PurgeItems.{both, made}
use Rattle.dedb_area.proofs.Purges.{purged_here}
use Rattle.plain_laws.proofs.Numbers.{is_number, other_number}

-- ---- the bytes

-- control is as it is staged,
control_is : (data_set : ℕ) (flag : Bool) (control new : List ℕ) (item : Option Item) (newest : AreaBytes)
    → length control ≡ length new → IsChange flag data_set 0 control new item → newest data_set 0 ≡ control → (s k : ℕ)
    → (s == data_set && k == 0) ≡ true → redone_at s k (items_in item) (newest s k) ≡ new
control_is data_set flag control new None newest same change is s k here =
    let at = both s k data_set here in
    ap (λ x. newest x k) at.0 ∙ ap (newest data_set) at.1 ∙ is ∙ sym change
control_is data_set flag control new (Some item) newest same change is s k here =
    made data_set flag control new item newest same change.1 is s k here
    (names_item flag data_set 0 control new item change.1 s k ∙ here)

-- and every other interval as it was
other_is : (data_set : ℕ) (flag : Bool) (control new : List ℕ) (item : Option Item) (newest : AreaBytes)
    → IsChange flag data_set 0 control new item → (s k : ℕ) → (s == data_set && k == 0) ≡ false
    → redone_at s k (items_in item) (newest s k) ≡ newest s k
other_is data_set flag control new None newest change s k other = refl
other_is data_set flag control new (Some item) newest change s k other =
    redone_none s k (item ∷ []) (newest s k)
    (names_one s k item ∙ names_item flag data_set 0 control new item change.1 s k ∙ other)

-- ---- the areas

module _ (defs : Defs) (data_set n : ℕ) (db next : Db) (newest : AreaBytes) (flag : Bool) (pool : Held)
    (item : Option Item) (are : AreFor (places_of defs) newest db) (good : ArePlaces (places_of defs))
    (p : IsPurgeStaged n data_set flag (newest data_set 0) pool item)
    (long : length (newest data_set 0) ≡ length p.new) where
  bytes_here : redone (items_in item) newest data_set ≡ with_control p.new (newest data_set)
  bytes_here = fun_ext (λ k. at k)
    where
      at : (k : ℕ) → redone_at data_set k (items_in item) (newest data_set k) ≡ with_control p.new (newest data_set) k
      at k =
          let it = is_number data_set in
          elim (cases_Bool (k == 0)) [
            | inl first ↦
                control_is data_set flag (newest data_set 0) p.new item newest long p.change refl data_set k
                (rw (it, first) refl)
                ∙ sym (ap (λ t. if t then p.new else newest data_set k) first)
            | inr later ↦
                other_is data_set flag (newest data_set 0) p.new item newest p.change data_set k (rw (it, later) refl)
                ∙ sym (ap (λ t. if t then p.new else newest data_set k) later)
          ]

  bytes_there : (s : ℕ) → s ≢ data_set → redone (items_in item) newest s ≡ newest s
  bytes_there s ne = fun_ext (λ k. at k)
    where
      at : (k : ℕ) → redone_at s k (items_in item) (newest s k) ≡ newest s k
      at k =
          other_is data_set flag (newest data_set 0) p.new item newest p.change s k
          (ap (λ t. t && k == 0) (other_number s data_set ne))

  here_purged : (place : Place) → place_at (places_of defs) data_set ≡ Some place
      → HasState place (area_in (layout_of (places_of defs)) (redone (items_in item) newest) data_set)
      (purged n (state_of place db))
  here_purged place is =
      let fine = place_there (places_of defs) data_set place good is in
      let has = purged_here place (newest data_set) p.new n p.purged (state_of place db) fine
      (state_here (places_of defs) newest db data_set place are is) in
      subst (λ area. HasState place area (purged n (state_of place db)))
      (sym (counted_area (places_of defs) (redone (items_in item) newest) data_set place is))
      (subst (λ (f : ℕ → List ℕ). HasState place (intervals_of place f) (purged n (state_of place db)))
      (sym bytes_here) has)

  there_same : (s : ℕ) (place : Place) → s ≢ data_set → place_at (places_of defs) s ≡ Some place
      → HasState place (area_in (layout_of (places_of defs)) (redone (items_in item) newest) s) (state_of place db)
  there_same s place ne is =
      subst (λ area. HasState place area (state_of place db))
      (sym (counted_area (places_of defs) (redone (items_in item) newest) s place is))
      (subst (λ (f : ℕ → List ℕ). HasState place (intervals_of place f) (state_of place db))
      (sym (bytes_there s ne)) (state_here (places_of defs) newest db s place are is))

  pub purge_for : IsDbOf defs db → purged_databases defs data_set n db ≡ Some next
      → AreFor (places_of defs) (redone (items_in item) newest) next
  purge_for shaped e =
      purged_in_areas defs data_set n db next (redone (items_in item) newest) e (databases_have defs db shaped)
      here_purged there_same

-- the areas are those of the definitions
pub purge_places : (defs : Defs) (places : List Place) (data_set n : ℕ) (db next : Db) (newest : AreaBytes)
    (flag : Bool) (pool : Held) (item : Option Item) → places ≡ places_of defs → AreFor places newest db
    → ArePlaces places → (p : IsPurgeStaged n data_set flag (newest data_set 0) pool item)
    → IsDbOf defs db → purged_databases defs data_set n db ≡ Some next → AreFor places (redone (items_in item) newest) next
purge_places defs places data_set n db next newest flag pool item e are good p shaped is =
    subst (λ ps. AreFor ps (redone (items_in item) newest) next) (sym e)
    (purge_for defs data_set n db next newest flag pool item (subst (λ ps. AreFor ps newest db) e are)
    (subst ArePlaces e good) p (sym p.purged.ends.same_size) shaped is)
