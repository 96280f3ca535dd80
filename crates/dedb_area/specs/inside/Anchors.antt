-- What bodies and proofs need of Anchors, beside what contracts say.
use Rattle.std.specs.Prelude.{◌≡◌, ℕ, ◌<◌, List, Some}
use Rattle.ci_pool.specs.Held.{Held, newest_in}
use Rattle.area_redo.specs.Redo.{AreaBytes}
use Rattle.area_states.specs.declared.place.Place.{Place}
use Rattle.area_states.specs.Places.{counted_by, place_at}
use Rattle.area_staging.specs.Staging.{IsToldPool}

-- ---- an area

-- What the pool has of an area is of its size, and of its data set where it is clean; and the newest bytes of the intervals
-- that control counts, in the pool else in the data set, are these.
pub record ShowsArea (place : Place) (set : ℕ) (contents : ℕ → List ℕ) (pool : Held) (bytes : ℕ → List ℕ) : Type 0 where
  pub told : IsToldPool set place.shape.ci contents pool
  pub newest : (ci : ℕ) → ci < counted_by (Some place) (bytes 0)
      → newest_in pool contents set ci place.shape.ci ≡ bytes ci

-- so it is of each area
abbrev pub ShowsAreas : List Place → (ℕ → List ℕ) → Held → AreaBytes → Type 0
ShowsAreas places contents pool bytes =
    (set : ℕ) (place : Place) → place_at places set ≡ Some place → ShowsArea place set contents pool (bytes set)
