-- The roots of an anchor, in the intervals of its area.
use Rattle.std.specs.Prelude.{◌≡◌, ℕ, ◌-◌, ◌*◌, ◌≤◌, ◌^◌, List, Some, min}
use Rattle.held_intervals.specs.Holding.{listed}
use Rattle.fp_model.specs.declared.database.Root.{Root}
use Rattle.ci_pool.specs.Held.{Held}
use Rattle.area_redo.specs.Redo.{AreaBytes}
use Rattle.area_states.specs.declared.place.Place.{Place}
use Rattle.area_states.specs.Places.{LiesIn, counted_by, place_at}
use Rattle.area_states.specs.States.{HasAnchor}
use Rattle.area_reading.specs.Damage.{IsUnreadable}
use Rattle.dedb_area.specs.Control.{IsControl}
use Rattle.area_staging.specs.Staging.{AllAtHand}

-- ---- an area

-- the intervals of an area, as many as its control counts
abbrev pub intervals_of : Place → (ℕ → List ℕ) → List (List ℕ)
intervals_of place bytes = listed (counted_by (Some place) (bytes 0)) bytes

-- ---- an anchor

-- the area of this data set has the anchor of the database, with this number within it
pub record IsAnchorOf (places : List Place) (dedb anchor set : ℕ) (place : Place) (number : ℕ) : Type 0 where
  pub is_place : place_at places set ≡ Some place
  pub lies : LiesIn place dedb anchor number

pub record HasAnchorIn (places : List Place) (dedb anchor set : ℕ) : Type 0 where
  pub place : Place
  pub number : ℕ
  pub is : IsAnchorOf places dedb anchor set place number

-- These are the roots of the anchor, in an area that has it and these bytes.
pub record AreRootsOf (places : List Place) (bytes : AreaBytes) (dedb anchor : ℕ) (roots : List Root) : Type 0 where
  pub set : ℕ
  pub place : Place
  pub number : ℕ
  pub is : IsAnchorOf places dedb anchor set place number
  pub has : HasAnchor place (intervals_of place (bytes set)) number roots

-- each interval of the areas that have the anchor is at hand
abbrev pub AnchorIsAtHand : List Place → Held → AreaBytes → ℕ → ℕ → Type 0
AnchorIsAtHand places pool bytes dedb anchor =
    (set : ℕ) (place : Place) (number : ℕ) → IsAnchorOf places dedb anchor set place number
    → AllAtHand pool set (counted_by (Some place) (bytes set 0))

-- ---- damage

-- the intervals that each area counts end at or before byte 2^62
abbrev pub AreInTime : List Place → AreaBytes → Type 0
AreInTime places bytes =
    (set : ℕ) (place : Place) → place_at places set ≡ Some place
    → counted_by (Some place) (bytes set 0) * place.shape.ci ≤ 2 ^ 62

-- these bytes are control, and the intervals that it counts end at or before byte 2^62
pub record CountsIntervals (place : Place) (control : List ℕ) : Type 0 where
  pub is_control : IsControl control
  pub ends : counted_by (Some place) control * place.shape.ci ≤ 2 ^ 62

-- An interval of an area with these bytes is at fault, so that the anchor of this number can't be read: control, where it
-- doesn't count the intervals, else one among these.
pub data IsFaulty (place : Place) (bytes : ℕ → List ℕ) (number ci : ℕ) : Type 0 where
  uncounted : ci ≡ 0 → ¬ CountsIntervals place (bytes 0) → IsFaulty place bytes number ci
  unreadable : IsUnreadable place (intervals_of place bytes) number ci → IsFaulty place bytes number ci

-- the byte at which an interval begins, or the last number where it begins past that
abbrev pub IsBegin : Place → ℕ → ℕ → Type 0
IsBegin place ci at = at ≡ min (ci * place.shape.ci) (2 ^ 64 - 1)

-- an interval that begins at this byte of this data set is at fault, so that the anchor can't be read
pub record IsDamagedFor (places : List Place) (bytes : AreaBytes) (dedb anchor set at : ℕ) : Type 0 where
  pub place : Place
  pub number : ℕ
  pub ci : ℕ
  pub is : IsAnchorOf places dedb anchor set place number
  pub begins : IsBegin place ci at
  pub faulty : IsFaulty place (bytes set) number ci
