-- What calls that change no area keep of all areas.
use Rattle.std.specs.Prelude.{◌≡◌, ℕ}
use Rattle.fp_site.specs.Disk.{Disk, Stays}
use Rattle.fp_lists.specs.Continued.{IsContinued}
use Rattle.area_redo.specs.Redo.{AreaBytes}
use Rattle.area_redo.specs.Standing.{Way}
use Rattle.dedb_area.specs.Standing.{Holding, IsFitPool}
use Rattle.dedb_area.specs.Keeping.{KeepsAreas}

-- By what the site tells: it is looked at and stays. What the pool has pending and staged stays, and areas that stand do so
-- behind it.
pub record LooksAtAreas {S : Type 0} (told : S → Type 0) (disk : S → Disk) (faults holds : S → ℕ)
    (keeps : S → S → Type 0) (old new : S) (before after : Holding) : Type 0 where
  pub continued : IsContinued told faults holds keeps old new
  pub stays : told old → Stays (disk old) (disk new)
  pub places : after.places ≡ before.places
  pub unsynced : after.unsynced ≡ before.unsynced
  pub imaged : after.imaged ≡ before.imaged
  pub cells : after.pool.cells ≡ before.pool.cells
  pub fit : IsFitPool before.places before.pool → IsFitPool after.places after.pool
  pub areas : told old → (way : Way) (bytes : AreaBytes) → KeepsAreas way bytes (disk old) (disk new) before after
