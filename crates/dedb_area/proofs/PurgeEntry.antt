-- The entry of a Purge.
use Rattle.std.proofs.Common.{◌≡◌, inl, inr, ℕ, ◌+◌, ◌<◌, ◌≤◌, Bool, true, false, List, [], ◌∷◌, drop, refl, sym, ◌∙◌, ap, subst, arith}
use Rattle.std.specs.Prelude.{◌==◌, ◌&&◌, Option, Some, None, min, slice_index}
use Rattle.std.proofs.lemmas.Bool.{cases_Bool}
use Rattle.fp_model.specs.Items.{begins_with_image, is_image, items_of}
use Rattle.fp_model.specs.ItemTargets.{names_interval}
use Rattle.fp_model.specs.declared.log.Item.{Item}
use Rattle.fp_site.specs.Disk.{Disk}
use Rattle.ci_space.specs.Head.{ends_of}
use Rattle.ci_overflow.specs.Places.{first_independent}
use Rattle.seq_dependents.specs.Control.{begin_in, end_in}
use Rattle.ci_pool.specs.Held.{Held}
use Rattle.area_redo.specs.Redo.{AreaBytes, names, redone_at}
use Rattle.area_redo.specs.Standing.{Way, all_since_mark, behind}
use Rattle.area_redo.specs.Steps.{AreImaged}
use Rattle.area_redo.proofs.Items.{redone_none}
use Rattle.area_states.specs.declared.place.Place.{Place}
use Rattle.area_states.specs.Places.{counted_by, place_at}
use Rattle.dedb_area.specs.Appending.{MayEnter}
use Rattle.area_staging.specs.Items.{IsChange, is_imaged}
use Rattle.area_staging.specs.Items.{items_in}
use Rattle.dedb_area.specs.Purging.{IsPurgeStaged, IsPurged}
use Rattle.dedb_area.specs.Standing.{AreasStand, Holding}
use Rattle.dedb_area.proofs.Purges.{third_stays}
use Rattle.area_staging.proofs.ItemLemmas.{names_item, names_one}
use Rattle.dedb_area.proofs.PurgeItems.{both, made}
use Rattle.area_staging.proofs.Steps.{image_then}

-- ---- it begins with an image

begins_one : (s k : ℕ) (item : Item) → (names_interval s k item ≡ true → is_image item ≡ true)
    → begins_with_image s k (item ∷ []) ≡ true
begins_one s k item f = elim (cases_Bool (names_interval s k item)) [
  | inl e ↦ let image = f e in rw e image
  | inr e ↦ rw e refl
]

begins_change : (way : Way) (imaged : List (List Bool)) (set : ℕ) (old new : List ℕ) (item : Option Item)
    → IsChange (is_imaged imaged set 0) set 0 old new item → AreImaged way (is_imaged imaged) → (s k : ℕ)
    → names s k (items_of (all_since_mark way)) ≡ false → begins_with_image s k (items_in item) ≡ true
begins_change way imaged set old new None change flags s k none = refl
begins_change way imaged set old new (Some item) change flags s k none = begins_one s k item (λ named.
    let here : (s == set && k == 0) ≡ true =
    sym (names_item (is_imaged imaged set 0) set 0 old new item change.1 s k) ∙ named in
    let at = both s k set here in
    let flag : is_imaged imaged set 0 ≡ false =
    ap (λ x. is_imaged imaged x 0) (sym at.0) ∙ ap (is_imaged imaged s) (sym at.1) ∙ flags s k ∙ none in
    image_then (is_imaged imaged set 0) set 0 old new item flag change.1)

-- ---- it makes no interval new

counted_same : (place : Place) (old new : List ℕ) (begin end : ℕ) → ends_of new ≡ begin ∷ end ∷ drop 2 (ends_of old)
    → counted_by (Some place) new ≡ counted_by (Some place) old
counted_same place old new begin end is =
    ap (λ k. first_independent place.shape + k)
    (ap (λ l. slice_index l 2) is ∙ third_stays (ends_of old) begin end)

counts_change : (places : List Place) (newest : AreaBytes) (n set : ℕ) (flag : Bool) (control new : List ℕ)
    (item : Option Item) (place : Place) → IsPurged n control new → IsChange flag set 0 control new item
    → newest set 0 ≡ control → place_at places set ≡ Some place → (s : ℕ)
    → counted_by (place_at places s) (redone_at s 0 (items_in item) (newest s 0))
    ≡ counted_by (place_at places s) (newest s 0)
counts_change places newest n set flag control new None place purged change is there s = refl
counts_change places newest n set flag control new (Some item) place purged change is there s =
    elim (cases_Bool (names s 0 (item ∷ []))) [
      | inl e ↦
          let named : names_interval s 0 item ≡ true = sym (names_one s 0 item) ∙ e in
          let here : (s == set && 0 == 0) ≡ true = sym (names_item flag set 0 control new item change.1 s 0) ∙ named in
          let at = both s 0 set here in
          let now : redone_at s 0 (item ∷ []) (newest s 0) ≡ new =
          made set flag control new item newest (sym purged.ends.same_size) change.1 is s 0 here named in
          let was : newest s 0 ≡ control = ap (λ x. newest x 0) at.0 ∙ is in
          let area : place_at places s ≡ Some place = ap (place_at places) at.0 ∙ there in
          ap (counted_by (place_at places s)) now ∙ ap (λ o. counted_by o new) area
          ∙ counted_same place control new (min (end_in control) (begin_in control + n)) (end_in control)
          purged.ends.is_ends
          ∙ sym (ap (λ o. counted_by o control) area) ∙ sym (ap (counted_by (place_at places s)) was)
      | inr e ↦ ap (counted_by (place_at places s)) (redone_none s 0 (item ∷ []) (newest s 0) e)
    ]

no_room : (k before after : ℕ) → after ≡ before → before ≤ k → k < after → ⊥
no_room k before after same from below = omega (arith, same, from, below)

-- so areas may stand behind it
pub enters_purge : (way : Way) (bytes : AreaBytes) (disk : Disk) (areas : Holding) (n set : ℕ) (pool : Held)
    (item : Option Item) (place : Place) → AreasStand way bytes disk areas → place_at areas.places set ≡ Some place
    → IsPurgeStaged n set (is_imaged areas.imaged set 0) (behind way.unsealed bytes set 0) pool item
    → MayEnter way bytes areas (items_in item)
enters_purge way bytes disk areas n set pool item place stands there p =
    let newest = behind way.unsealed bytes in
    let flag = is_imaged areas.imaged set 0 in
    record {
      begins = λ e is s k none.
          subst (λ l. begins_with_image s k l ≡ true) (sym is)
          (begins_change way areas.imaged set (newest set 0) p.new item p.change stands.imaged s k none);
      grow = λ s k from below. absurd (no_room k (counted_by (place_at areas.places s) (newest s 0))
          (counted_by (place_at areas.places s) (redone_at s 0 (items_in item) (newest s 0)))
          (counts_change areas.places newest n set flag (newest set 0) p.new item place p.purged p.change refl there s)
          from below);
    }
