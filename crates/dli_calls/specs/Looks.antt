-- The segments of one database in the store.
use Rattle.std.specs.Prelude.{◌≡◌, ℕ, List, [], Some, slice_get, unwrap_or}
use Rattle.fp_model.specs.declared.database.Msdb.{Msdb}
use Rattle.fp_model.specs.declared.definitions.MsdbDef.{MsdbDef}
use Rattle.msdb_store.specs.Store.{IsOf, Stored}

-- the store is one of definitions that have this one at a number
pub record IsStored (store : Stored) (number : ℕ) (def : MsdbDef) : Type 0 where
  pub defs : List MsdbDef
  pub of : IsOf defs store
  pub there : slice_get defs number ≡ Some def

-- the segments of the database of a number
abbrev pub segments_in : Stored → ℕ → Msdb
segments_in store number = unwrap_or (slice_get store.msdbs number) (record { segments = [] })
