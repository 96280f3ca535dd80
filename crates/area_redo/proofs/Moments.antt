-- The steps of a run at each of their moments, and what they keep of a checkpoint that may open.
use Rattle.std.proofs.Common.{ℕ}
use Rattle.fp_site.specs.Disk.{Disk}
use Rattle.fp_model.specs.Items.{items_of}
use Rattle.area_redo.specs.Redo.{AreaBytes, Layout, RedoesThrough}
use Rattle.area_redo.specs.Standing.{Way, since_mark, Owed, without, Stands, MayOpen, MayBeWritten}
use Rattle.area_redo.specs.Steps.{WritesInterval, SyncsSet}
use Rattle.area_redo.proofs.Areas.{write_through, sync_through}
use Rattle.area_redo.proofs.Steps.{tail_named, without_due}
use Rattle.area_redo.proofs.Opening.{tail_begins, since_begins, may_wrote, may_write_through}

module _ (layout : Layout) (way : Way) (owed : Owed) (bytes : AreaBytes) (old new : Disk)
    (stands : Stands layout way owed bytes old) where
  -- a write of an interval that may be written
  pub write_moments : (set ci : ℕ) → MayBeWritten way owed set ci → WritesInterval layout set ci old new
      → RedoesThrough layout (items_of way.tail) bytes old new
  write_moments set ci may call = write_through layout (items_of way.tail) bytes set ci old new call.lawful_before
      (tail_begins layout way owed bytes stands.owes)
      (tail_named layout way owed bytes set ci may.due
      (stands.owes.each set ci may.due may.is_owed) may.is_sealed) call.crash stands.redoes

  -- and a sync
  pub sync_moments : (set : ℕ) → SyncsSet set old new → RedoesThrough layout (items_of way.tail) bytes old new
  sync_moments set syncs = sync_through layout (items_of way.tail) bytes set old new syncs.call.lawful_before
      (tail_begins layout way owed bytes stands.owes) syncs.call.crash stands.redoes

  -- and beside a checkpoint that may open
  module _ (opening : MayOpen layout way owed bytes old) where
    pub opening_write_moments : (set ci : ℕ) → MayBeWritten way owed set ci → WritesInterval layout set ci old new
        → RedoesThrough layout (items_of (since_mark way)) bytes old new
    opening_write_moments set ci may call =
        may_write_through layout way owed bytes set ci may.due old new stands opening may.is_owed may.is_sealed
        call.lawful_before call.crash

    pub opening_sync_moments : (set : ℕ) → SyncsSet set old new
        → RedoesThrough layout (items_of (since_mark way)) bytes old new
    opening_sync_moments set syncs =
        sync_through layout (items_of (since_mark way)) bytes set old new syncs.call.lawful_before
        (since_begins layout way owed bytes stands.owes) syncs.call.crash opening.redoes

    -- which it may still behind the write, whether it answered Ok or not
    pub opening_written : (set ci : ℕ) → MayBeWritten way owed set ci → WritesInterval layout set ci old new
        → MayOpen layout way (without set ci owed) bytes new
    opening_written set ci may call = record {
      none_below = λ s c due is. opening.none_below s c due (without_due layout way owed bytes set ci s c due is);
      redoes = may_wrote layout way owed bytes set ci may.due old new stands opening may.is_owed may.is_sealed
          call.lawful_before call.lawful_after call.crash;
    }

    pub opening_failed : (set ci : ℕ) → MayBeWritten way owed set ci → WritesInterval layout set ci old new
        → MayOpen layout way owed bytes new
    opening_failed set ci may call = record {
      none_below = opening.none_below;
      redoes = may_wrote layout way owed bytes set ci may.due old new stands opening may.is_owed may.is_sealed
          call.lawful_before call.lawful_after call.crash;
    }
