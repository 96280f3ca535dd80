-- What stays while areas are staged, and how they stand with it.
use Rattle.std.proofs.Common.{◌≡◌, ℕ, ◌+◌, Bool, false, List, refl, sym, ◌∙◌, ap, subst}
use Rattle.std.specs.Prelude.{Contains, Option, Some, None, IsSome, slice_get}
use mathlib.Core.Path.{fun_ext}
use Rattle.fp_site.specs.Disk.{Disk, IsLawful}
use Rattle.fp_site.proofs.Images.{durable_stays}
use Rattle.fp_site.proofs.Runs.{stays_then}
use Rattle.fp_lists.proofs.ContinuedLemmas.{continued_both, continued_none}
use Rattle.fp_model.specs.Items.{items_of}
use Rattle.fp_model.specs.State.{first_area_set}
use Rattle.ci_pool.specs.Held.{Held, pending_at}
use Rattle.area_redo.specs.Redo.{AreaBytes, Layout}
use Rattle.area_redo.specs.Standing.{MayOpen, Stands, Way, since_mark}
use Rattle.area_redo.specs.Steps.{SparesAreas}
use Rattle.area_redo.proofs.Areas.{spared_through, stays_spares}
use Rattle.area_redo.proofs.Opening.{may_spared, spared}
use Rattle.area_states.specs.declared.place.Place.{Place}
use Rattle.area_states.specs.Places.{layout_of, place_at}
use Rattle.area_staging.specs.Changing.{Stages}
use Rattle.area_staging.specs.Items.{is_imaged}
use Rattle.area_staging.specs.Looking.{stays_itself}
use Rattle.area_staging.proofs.Stages.{newest_stays}
use Rattle.dedb_area.specs.inside.Anchors.{ShowsAreas}
use Rattle.dedb_area.specs.Appending.{StagedStand, StagesInAreas}
use Rattle.dedb_area.specs.inside.Committing.{StagesAll}
use Rattle.dedb_area.specs.Dropping.{IsDropped}
use Rattle.dedb_area.specs.Publishing.{IsFitStaged}
use Rattle.dedb_area.specs.Standing.{AreasMayOpen, AreasStand, Holding, IsFitPool, due_of, owed_of}

module _ {S : Type 0} (told : S → Type 0) (disk : S → Disk) (faults holds : S → ℕ) (keeps : S → S → Type 0)
    (places : List Place) where
  -- no call yet
  pub all_itself : (s : S) (pool : Held) → StagesAll told disk faults holds keeps places s s pool pool
  all_itself s pool = record {
    continued = continued_none told faults holds keeps s;
    stays = λ t. stays_itself (disk s);
    pending = λ n k. refl;
    others = λ n k none. refl;
    sizes = λ was. was;
    clean = λ t was. was;
  }

  -- one area more
  pub all_more : ((s : S) → told s → IsLawful (disk s)) → (set : ℕ) (place : Place) (a b c : S) (p q r : Held)
      → place_at places set ≡ Some place → StagesAll told disk faults holds keeps places a b p q
      → Stages told disk faults holds keeps set place.shape.ci b c q r
      → StagesAll told disk faults holds keeps places a c p r
  all_more lawful set place a b c p q r is first second = record {
    continued = continued_both told faults holds keeps a b c first.continued second.continued;
    stays = λ t. stays_then (disk a) (disk b) (disk c) (lawful a t) (lawful b (first.continued.still_told t))
        (first.stays t) (second.stays (first.continued.still_told t));
    pending = λ s k. second.pending s k ∙ first.pending s k;
    others = λ s k none.
        second.others s k (λ e. none (subst IsSome (sym (ap (place_at places) e ∙ is)) refl))
        ∙ first.others s k none;
    sizes = λ was s other there.
        second.sizes s other.shape.ci (same_size s other there) (first.sizes was s other there);
    clean = λ t was. second.clean (first.continued.still_told t) (first.clean t was);
  }
    where
      same_size : (s : ℕ) (other : Place) → place_at places s ≡ Some other → s ≡ set
          → other.shape.ci ≡ place.shape.ci
      same_size s other there e =
          let both : Some other ≡ Some place = sym there ∙ ap (place_at places) e ∙ is in
          let one : other ≡ place = cc in
          ap (λ (x : Place). x.shape.ci) one

  -- ---- what is shown

  pub all_shown : (a b : S) (p q : Held) (newest : AreaBytes) → StagesAll told disk faults holds keeps places a b p q
      → told a → ShowsAreas places (disk a).contents p newest → ShowsAreas places (disk b).contents q newest
  all_shown a b p q newest stages t shown set place is =
      let here = shown set place is in
      record {
        told = record {
          clean = stages.clean t here.told.clean;
          sizes = stages.sizes (λ s other there. (shown s other there).told.sizes) set place is;
        };
        newest = λ ci below.
            newest_stays told disk faults holds keeps set place.shape.ci p q (disk a).contents (disk b).contents set ci
            place.shape.ci (stages.pending set ci) (stages.stays t).contents
            ∙ here.newest ci below;
      }

  -- ---- the areas

  module _ (lawful : (s : S) → told s → IsLawful (disk s)) (flags : List Bool) (imaged imaged2 : List (List Bool))
      (old new : S) (pool after : Held) (stages : StagesAll told disk faults holds keeps places old new pool after)
      (flagged : (s k : ℕ) → is_imaged imaged2 s k ≡ is_imaged imaged s k) where
    abbrev was : Holding
    was = record { places = places; unsynced = flags; imaged = imaged; pool = pool }

    abbrev now : Holding
    now = record { places = places; unsynced = flags; imaged = imaged2; pool = after }

    of_area : (o : Option Place) → ¬ ¬ IsSome o → IsSome o
    of_area None f = absurd (f (λ is. cc))
    of_area (Some p) f = refl

    fit_staged : IsFitPool places pool → IsFitStaged places after
    fit_staged fit = record {
      sizes = stages.sizes fit.sizes;
      areas = λ s k w h. fit.areas s k w (sym (stages.pending s k) ∙ h);
      below = λ s k w h. fit.below s k w (sym (stages.pending s k) ∙ h);
      staged = λ s k b h. of_area (place_at places s) (λ none.
          (let both : None ≡ Some b = sym (fit.unstaged s k) ∙ sym (stages.others s k none) ∙ h in cc));
    }

    same_owed : owed_of after ≡ owed_of pool
    same_owed = fun_ext (λ s. fun_ext (λ k. ap due_of (stages.pending s k)))

    pub stages_areas : StagesInAreas told disk faults holds keeps old new was now
    stages_areas = record {
      continued = stages.continued;
      stays = stages.stays;
      places = refl;
      unsynced = refl;
      imaged = flagged;
      pending = stages.pending;
      fit = fit_staged;
      areas = λ t way bytes.
          let layout : Layout = layout_of places in
          let law : IsLawful (disk old) = lawful old t in
          let law2 : IsLawful (disk new) = lawful new (stages.continued.still_told t) in
          let spares : SparesAreas layout bytes (disk old) (disk new) =
          stays_spares layout bytes (disk old) (disk new) law law2 (stages.stays t) in
          record {
            stands = λ s. record {
              fit = fit_staged s.fit;
              pool = record {
                stands = subst (λ o. Stands layout way o bytes (disk new)) (sym same_owed)
                    (spared layout way (owed_of pool) bytes (disk old) (disk new) s.pool.stands spares);
                newest = λ k ci w h. s.pool.newest k ci w (sym (stages.pending k ci) ∙ h);
                clean = stages.clean t s.pool.clean;
              };
              synced = λ number h. durable_stays (disk old) (disk new) (first_area_set + number) law law2
                  (stages.stays t) (s.synced number h);
              imaged = λ k ci. flagged k ci ∙ s.imaged k ci;
            };
            moments = λ s. spared_through layout (items_of way.tail) bytes (disk old) (disk new) spares
                s.pool.stands.redoes;
            opening = λ s may. subst (λ o. MayOpen layout way o bytes (disk new)) (sym same_owed)
                (may_spared layout way (owed_of pool) bytes (disk old) (disk new) may spares);
            opening_moments = λ s may. spared_through layout (items_of (since_mark way)) bytes (disk old) (disk new)
                spares may.redoes;
          };
    }

-- one area is staged
pub area_stages : {S : Type 0} (told : S → Type 0) (disk : S → Disk) (faults holds : S → ℕ) (keeps : S → S → Type 0)
    (places : List Place) → ((s : S) → told s → IsLawful (disk s)) → (set : ℕ) (place : Place) (flags : List Bool)
    (imaged imaged2 : List (List Bool)) (old new : S) (pool after : Held) → place_at places set ≡ Some place
    → Stages told disk faults holds keeps set place.shape.ci old new pool after
    → ((s k : ℕ) → is_imaged imaged2 s k ≡ is_imaged imaged s k)
    → StagesInAreas told disk faults holds keeps old new
    (record { places = places; unsynced = flags; imaged = imaged; pool = pool })
    (record { places = places; unsynced = flags; imaged = imaged2; pool = after })
area_stages told disk faults holds keeps places lawful set place flags imaged imaged2 old new pool after is stages e =
    stages_areas told disk faults holds keeps places lawful flags imaged imaged2 old new pool after
    (all_more told disk faults holds keeps places lawful set place old old new pool pool after is
    (all_itself told disk faults holds keeps places old pool) stages) e

-- ---- what is dropped

-- areas stand once what is staged of them is dropped
pub dropped_stand : (way : Way) (bytes : AreaBytes) (disk : Disk) (before after : Holding)
    → ((set ci : ℕ) → pending_at after.pool set ci ≡ pending_at before.pool set ci)
    → after.pool.clean ≡ before.pool.clean → IsFitPool after.places after.pool → after.places ≡ before.places
    → after.unsynced ≡ before.unsynced → after.imaged ≡ before.imaged → StagedStand way bytes disk before
    → AreasStand way bytes disk after
dropped_stand way bytes disk before after same list fit places unsynced imaged stands =
    let owed : owed_of after.pool ≡ owed_of before.pool = fun_ext (λ s. fun_ext (λ k. ap due_of (same s k))) in
    record {
      fit = fit;
      pool = record {
        stands = subst (λ (ps : List Place). Stands (layout_of ps) way (owed_of after.pool) bytes disk) (sym places)
            (subst (λ o. Stands (layout_of before.places) way o bytes disk) (sym owed) stands.pool.stands);
        newest = λ k ci w h. stands.pool.newest k ci w (sym (same k ci) ∙ h);
        clean = λ k ci b c. stands.pool.clean k ci b (subst (λ l. Contains l ((k, ci), b)) list c);
      };
      synced = λ number h. stands.synced number (subst (λ (l : List Bool). slice_get l number ≡ Some false) unsynced h);
      imaged = λ k ci. ap (λ l. is_imaged l k ci) imaged ∙ stands.imaged k ci;
    }

module _ {S : Type 0} (told : S → Type 0) (disk : S → Disk) (faults holds : S → ℕ) (keeps : S → S → Type 0)
    (old new : S) (before mid after : Holding) (dropped : IsDropped mid after)
    (stages : StagesInAreas told disk faults holds keeps old new before mid) where
  still_fit : IsFitPool after.places after.pool → IsFitStaged after.places after.pool
  still_fit fit = record {
    sizes = fit.sizes;
    areas = fit.areas;
    below = fit.below;
    staged = λ s k b h. (let both : None ≡ Some b = sym (fit.unstaged s k) ∙ h in absurd cc);
  }

  stand_after : (way : Way) (bytes : AreaBytes) → StagedStand way bytes (disk new) mid
      → AreasStand way bytes (disk new) after
  stand_after way bytes stands =
      dropped_stand way bytes (disk new) mid after dropped.pending dropped.list (dropped.fit stands.fit) dropped.places
      dropped.unsynced dropped.imaged stands

  may_open_after : (way : Way) (bytes : AreaBytes) → AreasMayOpen way bytes (disk new) mid
      → AreasMayOpen way bytes (disk new) after
  may_open_after way bytes may =
      let owed : owed_of after.pool ≡ owed_of mid.pool =
      fun_ext (λ s. fun_ext (λ k. ap due_of (dropped.pending s k))) in
      subst (λ (ps : List Place). MayOpen (layout_of ps) way (owed_of after.pool) bytes (disk new)) (sym dropped.places)
      (subst (λ o. MayOpen (layout_of mid.places) way o bytes (disk new)) (sym owed) may)

  -- what was staged is dropped: the areas stand as before
  pub drop_stages : StagesInAreas told disk faults holds keeps old new before after
  drop_stages = record {
    continued = stages.continued;
    stays = stages.stays;
    places = dropped.places ∙ stages.places;
    unsynced = dropped.unsynced ∙ stages.unsynced;
    imaged = λ s k. ap (λ l. is_imaged l s k) dropped.imaged ∙ stages.imaged s k;
    pending = λ s k. dropped.pending s k ∙ stages.pending s k;
    fit = λ fit. still_fit (dropped.fit (stages.fit fit));
    areas = λ t way bytes.
        let kept = stages.areas t way bytes in
        record {
          stands = λ s.
              let now = stand_after way bytes (kept.stands s) in
              record { fit = still_fit now.fit; pool = now.pool; synced = now.synced; imaged = now.imaged };
          moments = kept.moments;
          opening = λ s may. may_open_after way bytes (kept.opening s may);
          opening_moments = kept.opening_moments;
        };
  }

  pub drop_stands : (way : Way) (bytes : AreaBytes) → told old → AreasStand way bytes (disk old) before
      → AreasStand way bytes (disk new) after
  drop_stands way bytes t s = stand_after way bytes ((stages.areas t way bytes).stands s)
