-- Putting one item into the databases where there is room for it.
use Rattle.std.specs.Prelude.{◌≡◌, ◌+◌, ◌<◌, ◌≤◌, ◌^◌, List, length, Bool, true, if◌then◌else◌}
use Rattle.std.specs.List.{AllByRecursion}
use Rattle.fp_model.specs.declared.database.Msdb.{Msdb}
use Rattle.fp_model.specs.declared.definitions.MsdbDef.{MsdbDef}
use Rattle.fp_model.specs.declared.log.Item.{Item}
use Rattle.msdb_store.specs.Settling.{adds}
use Rattle.msdb_store.specs.Store.{IsFitSegment, IsOf, Stored}

-- an item fits, and there is room where it adds a segment
pub record CanPut (defs : List MsdbDef) (store : Stored) (item : Item) : Type 0 where
  pub of : IsOf defs store
  pub fit : IsFitSegment defs item
  pub room : adds defs store.msdbs item ≡ true → 0 < store.spare

-- each database has fewer than 2^32 segments
abbrev pub AreFew : List Msdb → Type 0
AreFew msdbs = AllByRecursion (λ (msdb : Msdb). length msdb.segments < 2 ^ 32) msdbs

-- room for one segment is gone where one was added, and the databases don't become too long
pub record KeepsRoom (old new : Stored) (added : Bool) : Type 0 where
  pub spare : old.spare ≤ new.spare + (if added then 1 else 0)
  pub few : AreFew old.msdbs → AreFew new.msdbs
