-- What a table gives the view of its store.
use Rattle.std.specs.Prelude.{ℕ, length}
use Rattle.fp_model.specs.declared.database.Msdb.{Msdb}
use Rattle.msdb_store.specs.declared.table.Table.{Table}
use Rattle.msdb_store.specs.Store.{room}

-- how many more segments it takes without more memory
abbrev pub room_of : Table → ℕ
room_of t = room t.segments.capacity (length t.segments.items)

-- the database that it is
abbrev pub msdb_of : Table → Msdb
msdb_of t = record { segments = t.segments.items }
