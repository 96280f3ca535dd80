-- What is staged of areas becomes pending for an entry, and how the areas stand with it.
use Rattle.std.specs.Prelude.{◌≡◌, ℕ, ◌-◌, ◌<◌, ◌^◌, List}
use Rattle.fp_site.specs.Disk.{Disk, Stays}
use Rattle.fp_lists.specs.Continued.{IsContinued}
use Rattle.fp_model.specs.declared.log.Entry.{Entry}
use Rattle.fp_model.specs.declared.log.Item.{Item}
use Rattle.fp_model.specs.Items.{items_of}
use Rattle.ci_pool.specs.Held.{pending_at, IsClean}
use Rattle.area_redo.specs.Redo.{AreaBytes, GrowByImages, RedoesThrough}
use Rattle.area_redo.specs.Standing.{Way, BeginsSinceMark, behind, since_mark}
use Rattle.area_redo.specs.Steps.{AreImaged}
use Rattle.area_states.specs.Places.{layout_of}
use Rattle.area_staging.specs.Items.{is_imaged}
use Rattle.area_staging.specs.Flags.{AreNoted}
use Rattle.dedb_area.specs.Publishing.{ArePublished, IsFitStaged}
use Rattle.dedb_area.specs.Standing.{AreSynced, AreasMayOpen, AreasStand, Holding, IsFitPool, IsUnstaged, PoolStands}

-- where areas stand in a run, and changes are staged that no entry has yet
pub record StagedStand (way : Way) (bytes : AreaBytes) (disk : Disk) (areas : Holding) : Type 0 where
  pub fit : IsFitStaged areas.places areas.pool
  pub pool : PoolStands (layout_of areas.places) way bytes disk areas.pool
  pub synced : AreSynced areas.unsynced disk
  pub imaged : AreImaged way (is_imaged areas.imaged)

-- A publish for the entry at a place: what is staged is pending, the intervals that the items name have an item since the
-- mark, and all else stays.
pub record IsPublished (place : ℕ) (items : List Item) (before after : Holding) : Type 0 where
  pub pending : ArePublished place before.pool after.pool
  pub imaged : AreNoted items before.imaged after.imaged
  pub unstaged : IsUnstaged after.pool
  pub fit : place < 2 ^ 64 - 1 → IsFitStaged before.places before.pool → IsFitPool after.places after.pool
  pub clean : (contents : ℕ → List ℕ) → IsClean contents before.pool → IsClean contents after.pool
  pub places : after.places ≡ before.places
  pub unsynced : after.unsynced ≡ before.unsynced

-- An entry with just these items may come: an interval that no entry named since the mark begins with an image, and so does
-- one that is new in its area.
pub record MayEnter (way : Way) (bytes : AreaBytes) (areas : Holding) (items : List Item) : Type 0 where
  pub begins : (e : Entry) → e.items ≡ items → BeginsSinceMark way e
  pub grow : GrowByImages (layout_of areas.places) items (behind way.unsealed bytes)

-- ---- calls that stage changes

-- Areas that stand do so behind a call, with changes staged, and the tail's items make their bytes of what a crash leaves
-- at each moment. Where a checkpoint may open it still may, and so do the items since its mark.
pub record KeepsStaged (way : Way) (bytes : AreaBytes) (old new : Disk) (before after : Holding) : Type 0 where
  pub stands : AreasStand way bytes old before → StagedStand way bytes new after
  pub moments : AreasStand way bytes old before
      → RedoesThrough (layout_of before.places) (items_of way.tail) bytes old new
  pub opening : AreasStand way bytes old before → AreasMayOpen way bytes old before
      → AreasMayOpen way bytes new after
  pub opening_moments : AreasStand way bytes old before → AreasMayOpen way bytes old before
      → RedoesThrough (layout_of before.places) (items_of (since_mark way)) bytes old new

-- By what the site tells: it is looked at and stays. What is pending and which intervals have an item stays, and areas that
-- stand do so with what is staged.
pub record StagesInAreas {S : Type 0} (told : S → Type 0) (disk : S → Disk) (faults holds : S → ℕ)
    (keeps : S → S → Type 0) (old new : S) (before after : Holding) : Type 0 where
  pub continued : IsContinued told faults holds keeps old new
  pub stays : told old → Stays (disk old) (disk new)
  pub places : after.places ≡ before.places
  pub unsynced : after.unsynced ≡ before.unsynced
  pub imaged : (set ci : ℕ) → is_imaged after.imaged set ci ≡ is_imaged before.imaged set ci
  pub pending : (set ci : ℕ) → pending_at after.pool set ci ≡ pending_at before.pool set ci
  pub fit : IsFitPool before.places before.pool → IsFitStaged after.places after.pool
  pub areas : told old → (way : Way) (bytes : AreaBytes) → KeepsStaged way bytes (disk old) (disk new) before after
