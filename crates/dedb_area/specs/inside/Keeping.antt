-- What bodies and proofs need of Keeping, beside what contracts say.
use Rattle.std.specs.Prelude.{◌≡◌, ℕ}
use Rattle.fp_site.specs.Disk.{Disk, IsDurable}
use Rattle.fp_model.specs.Items.{items_of}
use Rattle.area_redo.specs.Redo.{AreaBytes, Layout, RedoesThrough}
use Rattle.area_redo.specs.Standing.{Way, since_mark, Owed, Stands, MayOpen}
use Rattle.dedb_area.specs.Keeping.{OnlyAreas}

-- Calls that write no interval: areas that stand do so behind them, and the tail's items make their bytes of what a
-- crash leaves at each moment. Where a checkpoint may open it still may, and so do the items since its mark.
pub record KeepsStanding (layout : Layout) (way : Way) (owed : Owed) (bytes : AreaBytes) (old new : Disk) : Type 0 where
  pub stands : Stands layout way owed bytes old → Stands layout way owed bytes new
  pub moments : Stands layout way owed bytes old → RedoesThrough layout (items_of way.tail) bytes old new
  pub opening : Stands layout way owed bytes old → MayOpen layout way owed bytes old
      → MayOpen layout way owed bytes new
  pub opening_moments : Stands layout way owed bytes old → MayOpen layout way owed bytes old
      → RedoesThrough layout (items_of (since_mark way)) bytes old new

-- Syncs of areas, whatever they answer: no contents change, what was durable stays so, and areas stand as before.
pub record SyncsAreas (old new : Disk) : Type 0 where
  pub contents : (set : ℕ) → new.contents set ≡ old.contents set
  pub durable : (set : ℕ) → IsDurable old set → IsDurable new set
  pub only : OnlyAreas old new
  pub standing : (layout : Layout) (way : Way) (owed : Owed) (bytes : AreaBytes)
      → KeepsStanding layout way owed bytes old new
