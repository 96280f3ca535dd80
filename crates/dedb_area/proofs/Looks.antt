-- Calls that change no area.
use Rattle.std.proofs.Common.{◌≡◌, ℕ, ◌+◌, Bool, List, refl, sym, ◌∙◌, ap, subst}
use Rattle.std.specs.Prelude.{Some}
use mathlib.Core.Path.{fun_ext}
use Rattle.fp_site.specs.Disk.{Disk, IsLawful}
use Rattle.fp_site.proofs.Images.{durable_stays}
use Rattle.fp_model.specs.Items.{items_of}
use Rattle.fp_model.specs.State.{first_area_set}
use Rattle.area_redo.specs.Redo.{AreaBytes, Layout}
use Rattle.area_redo.specs.Standing.{Way, since_mark, Stands, MayOpen}
use Rattle.area_redo.specs.Steps.{SparesAreas}
use Rattle.area_redo.proofs.Areas.{stays_spares, spared_through}
use Rattle.area_redo.proofs.Opening.{spared, may_spared}
use Rattle.ci_pool.specs.Held.{Held}
use Rattle.area_states.specs.declared.place.Place.{Place}
use Rattle.area_states.specs.Places.{place_at, layout_of}
use Rattle.area_staging.proofs.Looks.{same_pending, same_staged}
use Rattle.dedb_area.specs.Standing.{Holding, IsFitPool, due_of, owed_of}
use Rattle.dedb_area.specs.Keeping.{KeepsAreas}
use Rattle.area_staging.specs.Looking.{LooksAt}
use Rattle.dedb_area.specs.Looking.{LooksAtAreas}

-- pools with the same cells owe the same
pub same_owed : (pool after : Held) → after.cells ≡ pool.cells → owed_of after ≡ owed_of pool
same_owed pool after same = fun_ext (λ s. fun_ext (λ k. ap due_of (same_pending pool after same s k)))

module _ {S : Type 0} (told : S → Type 0) (disk : S → Disk) (faults holds : S → ℕ) (keeps : S → S → Type 0)
    (lawful : (s : S) → told s → IsLawful (disk s)) (set : ℕ) (place : Place) (places : List Place) (flags : List Bool)
    (imaged : List (List Bool)) (old new : S) (pool after : Held) (is : place_at places set ≡ Some place)
    (looks : LooksAt told disk faults holds keeps set place.shape.ci old new pool after) where
  abbrev was : Holding
  was = record { places = places; unsynced = flags; imaged = imaged; pool = pool }

  abbrev now : Holding
  now = record { places = places; unsynced = flags; imaged = imaged; pool = after }

  same_place : (s : ℕ) (p : Place) → place_at places s ≡ Some p → s ≡ set → p.shape.ci ≡ place.shape.ci
  same_place s p there e =
      let both : Some p ≡ Some place = sym there ∙ ap (place_at places) e ∙ is in
      let same : p ≡ place = cc in
      ap (λ (q : Place). q.shape.ci) same

  fit_looked : IsFitPool places pool → IsFitPool places after
  fit_looked fit = record {
    sizes = λ s p there. looks.sizes s p.shape.ci (same_place s p there) (fit.sizes s p there);
    areas = λ s k w h. fit.areas s k w (sym (same_pending pool after looks.cells s k) ∙ h);
    below = λ s k w h. fit.below s k w (sym (same_pending pool after looks.cells s k) ∙ h);
    unstaged = λ s k. same_staged pool after looks.cells s k ∙ fit.unstaged s k;
  }

  module _ (t : told old) (way : Way) (bytes : AreaBytes) where
    abbrev layout : Layout
    layout = layout_of places

    law : IsLawful (disk old)
    law = lawful old t

    law2 : IsLawful (disk new)
    law2 = lawful new (looks.continued.still_told t)

    spares : SparesAreas layout bytes (disk old) (disk new)
    spares = stays_spares layout bytes (disk old) (disk new) law law2 (looks.stays t)

    keeps_looked : KeepsAreas way bytes (disk old) (disk new) was now
    keeps_looked = record {
      places = refl;
      stands = λ s. record {
        fit = fit_looked s.fit;
        pool = record {
          stands = subst (λ o. Stands layout way o bytes (disk new)) (sym (same_owed pool after looks.cells))
              (spared layout way (owed_of pool) bytes (disk old) (disk new) s.pool.stands spares);
          newest = λ k ci w h. s.pool.newest k ci w (sym (same_pending pool after looks.cells k ci) ∙ h);
          clean = looks.clean t s.pool.clean;
        };
        synced = λ number h. durable_stays (disk old) (disk new) (first_area_set + number) law law2 (looks.stays t)
            (s.synced number h);
        imaged = s.imaged;
      };
      moments = λ s. spared_through layout (items_of way.tail) bytes (disk old) (disk new) spares s.pool.stands.redoes;
      opening = λ s may. subst (λ o. MayOpen layout way o bytes (disk new)) (sym (same_owed pool after looks.cells))
          (may_spared layout way (owed_of pool) bytes (disk old) (disk new) may spares);
      opening_moments = λ s may. spared_through layout (items_of (since_mark way)) bytes (disk old) (disk new) spares
          may.redoes;
    }

  pub areas_looked : LooksAtAreas told disk faults holds keeps old new was now
  areas_looked = record {
    continued = looks.continued;
    stays = looks.stays;
    places = refl;
    unsynced = refl;
    imaged = refl;
    cells = looks.cells;
    fit = fit_looked;
    areas = keeps_looked;
  }
