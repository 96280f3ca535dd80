-- How areas stand: the pool that holds their changed intervals, the entries, and the disk.
use Rattle.std.specs.Prelude.{◌≡◌, ℕ, ◌+◌, ◌-◌, ◌<◌, ◌^◌, Bool, false, List, slice_get, IsSome, Option, Some, None}
use Rattle.fp_site.specs.Disk.{Disk, IsDurable}
use Rattle.fp_model.specs.State.{first_area_set}
use Rattle.ci_pool.specs.declared.cell.Waiting.{Waiting}
use Rattle.ci_pool.specs.Held.{Held, pending_at, staged_at, IsClean, HasSize}
use Rattle.area_redo.specs.Redo.{AreaBytes, Layout}
use Rattle.area_redo.specs.Standing.{behind, Way, Due, Owed, Stands, MayOpen}
use Rattle.area_redo.specs.Steps.{AreImaged}
use Rattle.area_states.specs.declared.place.Place.{Place}
use Rattle.area_staging.specs.Items.{is_imaged}
use Rattle.area_states.specs.Places.{place_at, layout_of}

-- what contracts see of areas
pub record Holding : Type 0 where
  -- the areas, in order of definition
  pub places : List Place
  -- in the same order, which of them were written to since they were synced
  pub unsynced : List Bool
  -- in the same order, flags of their intervals: those that have an item since the mark
  pub imaged : List (List Bool)
  -- their intervals at hand
  pub pool : Held

-- ---- without the site

-- nothing is staged
abbrev pub IsUnstaged : Held → Type 0
IsUnstaged pool = (set ci : ℕ) → staged_at pool set ci ≡ None

-- What the pool has of an area's intervals has their size, it has pending ones of areas alone, and nothing is staged. No
-- entry has the last number.
pub record IsFitPool (places : List Place) (pool : Held) : Type 0 where
  pub sizes : (set : ℕ) (place : Place) → place_at places set ≡ Some place → HasSize set place.shape.ci pool
  pub areas : (set ci : ℕ) (w : Waiting) → pending_at pool set ci ≡ Some w → IsSome (place_at places set)
  pub below : (set ci : ℕ) (w : Waiting) → pending_at pool set ci ≡ Some w → w.newest < 2 ^ 64 - 1
  pub unstaged : IsUnstaged pool

-- ---- with the site

-- what an interval that waits owes
abbrev pub due_of : Option Waiting → Option Due
due_of None = None
due_of (Some w) = Some (record { oldest = w.oldest; newest = w.newest })

-- what the pool has of each interval
abbrev pub owed_of : Held → Owed
owed_of pool = λ set ci. due_of (pending_at pool set ci)

-- The areas have these bytes behind the sealed entries, and stand where the pool's pending intervals are those that are
-- owed. These have the newest bytes, and clean ones those of their data set.
pub record PoolStands (layout : Layout) (way : Way) (bytes : AreaBytes) (disk : Disk) (pool : Held) : Type 0 where
  pub stands : Stands layout way (owed_of pool) bytes disk
  pub newest : (set ci : ℕ) (w : Waiting) → pending_at pool set ci ≡ Some w
      → w.bytes ≡ behind way.unsealed bytes set ci
  pub clean : IsClean disk.contents pool

-- each area that wasn't written to since it was synced is durable
abbrev pub AreSynced : List Bool → Disk → Type 0
AreSynced unsynced disk =
    (number : ℕ) → slice_get unsynced number ≡ Some false → IsDurable disk (first_area_set + number)

-- Where areas stand in a run.
pub record AreasStand (way : Way) (bytes : AreaBytes) (disk : Disk) (areas : Holding) : Type 0 where
  pub fit : IsFitPool areas.places areas.pool
  pub pool : PoolStands (layout_of areas.places) way bytes disk areas.pool
  pub synced : AreSynced areas.unsynced disk
  pub imaged : AreImaged way (is_imaged areas.imaged)

-- and that the checkpoint under way may open
abbrev pub AreasMayOpen : Way → AreaBytes → Disk → Holding → Type 0
AreasMayOpen way bytes disk areas = MayOpen (layout_of areas.places) way (owed_of areas.pool) bytes disk
