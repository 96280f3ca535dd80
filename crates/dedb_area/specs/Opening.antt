-- Areas as they start, opened before any entry.
use Rattle.std.specs.Prelude.{◌≡◌, ◌≢◌, ℕ, List, [], length, false, true, slice_get, Some}
use Rattle.fp_site.specs.Disk.{Disk}
use Rattle.area_redo.specs.Redo.{AreaBytes, interval_in}
use Rattle.area_redo.specs.Standing.{Way}
use Rattle.area_states.specs.declared.place.Place.{Place}
use Rattle.area_states.specs.Places.{place_at, size_of}
use Rattle.area_staging.specs.Items.{is_imaged}
use Rattle.dedb_area.specs.Formatting.{IsFormatted}
use Rattle.dedb_area.specs.Standing.{Holding}

-- each area stands as it starts, and every crash leaves it so
abbrev pub AreFormatted : List Place → Disk → Type 0
AreFormatted places disk =
    (set : ℕ) (place : Place) → place_at places set ≡ Some place → IsFormatted place.shape set disk

-- the bytes of all intervals, as the data sets have them
abbrev pub bytes_in : List Place → (ℕ → List ℕ) → AreaBytes
bytes_in places contents = λ set ci. interval_in (size_of (place_at places set)) (contents set) ci

-- no entry came since the checkpoint that counts so many
abbrev pub no_entries : ℕ → Way
no_entries count = record { count = count; mark = count; tail = []; unsealed = [] }

-- Areas as they are opened: nothing is in the pool, none is to be synced, and no interval has an item since the mark.
pub record AreOpened (all : List Place) (areas : Holding) : Type 0 where
  pub places : areas.places ≡ all
  pub none_clean : areas.pool.clean ≡ []
  pub none_held : areas.pool.cells ≡ []
  pub count : length areas.unsynced ≡ length areas.places
  pub synced : (number : ℕ) → slice_get areas.unsynced number ≢ Some true
  pub unimaged : (set ci : ℕ) → is_imaged areas.imaged set ci ≡ false
