-- What the calls on areas keep.
use Rattle.std.specs.Prelude.{◌≡◌, ℕ, ◌≤◌, false, ◌==◌, ◌&&◌, if◌then◌else◌, List, Some, None}
use Rattle.fp_site.specs.Disk.{Disk, IsDurable}
use Rattle.fp_site.specs.Moments.{OnlyIn}
use Rattle.fp_model.specs.Items.{items_of}
use Rattle.fp_model.specs.State.{first_area_set}
use Rattle.ci_pool.specs.declared.cell.Waiting.{Waiting}
use Rattle.ci_pool.specs.Held.{Held, pending_at}
use Rattle.area_redo.specs.Redo.{AreaBytes, RedoesThrough}
use Rattle.area_redo.specs.Standing.{Way, since_mark}
use Rattle.area_staging.specs.Items.{is_imaged}
use Rattle.area_states.specs.declared.place.Place.{Place}
use Rattle.area_states.specs.Places.{layout_of, place_at}
use Rattle.dedb_area.specs.Standing.{Holding, AreasStand, AreasMayOpen}

-- The same of calls that write intervals too, or read them.
pub record KeepsAreas (way : Way) (bytes : AreaBytes) (old new : Disk) (before after : Holding) : Type 0 where
  pub places : after.places ≡ before.places
  pub stands : AreasStand way bytes old before → AreasStand way bytes new after
  pub moments : AreasStand way bytes old before
      → RedoesThrough (layout_of before.places) (items_of way.tail) bytes old new
  pub opening : AreasStand way bytes old before → AreasMayOpen way bytes old before
      → AreasMayOpen way bytes new after
  pub opening_moments : AreasStand way bytes old before → AreasMayOpen way bytes old before
      → RedoesThrough (layout_of before.places) (items_of (since_mark way)) bytes old new

-- no data set but those of areas changes, at any moment
abbrev pub OnlyAreas : Disk → Disk → Type 0
OnlyAreas = OnlyIn (λ set. first_area_set ≤ set)

-- the data set of each area is durable
abbrev pub AreDurable : List Place → Disk → Type 0
AreDurable places disk = (set : ℕ) (place : Place) → place_at places set ≡ Some place → IsDurable disk set

-- no interval has an item since the mark, and all else stays
pub record IsMarked (before after : Holding) : Type 0 where
  pub none : (set ci : ℕ) → is_imaged after.imaged set ci ≡ false
  pub places : after.places ≡ before.places
  pub unsynced : after.unsynced ≡ before.unsynced
  pub pool : after.pool ≡ before.pool

-- of all that is pending, this interval no more is
abbrev pub IsWritten : Held → Held → ℕ → ℕ → Type 0
IsWritten before after set ci =
    (s k : ℕ) → pending_at after s k ≡ (if s == set && k == ci then None else pending_at before s k)

-- nothing is pending
abbrev pub NonePending : Held → Type 0
NonePending pool = (set ci : ℕ) → pending_at pool set ci ≡ None

-- what is pending still, was so before
abbrev pub StillWaits : Held → Held → Type 0
StillWaits before after =
    (set ci : ℕ) (w : Waiting) → pending_at after set ci ≡ Some w → pending_at before set ci ≡ Some w
