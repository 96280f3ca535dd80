use Rattle.std.proofs.Common.{◌≡◌, ◌≤◌, length, map, take}
use Rattle.msdb_store.specs.inside.Putting.{AreFew}
use Rattle.msdb_store.specs.inside.Rooms.{msdb_of, room_of}
use Rattle.msdb_store.specs.Store.{least}
use Rattle.msdb_store.proofs.store.make_room.Given as goal

-- the tables so far have the room, and none lost any; where all had it none changed
abbrev pub invariant-loop-table : goal.invariant-loop-table
invariant-loop-table l =
    (length l.tables ≡ length l.initial.tables)
    × (l.n ≤ least (map room_of (take l.table-index l.tables)))
    × (least (map room_of l.initial.tables) ≤ least (map room_of l.tables))
    × (map (λ t. t.fields) l.tables ≡ map (λ t. t.fields) l.initial.tables)
    × (map msdb_of l.tables ≡ map msdb_of l.initial.tables)
    × AreFew (map msdb_of (take l.table-index l.tables))
    × (l.n ≤ least (map room_of l.initial.tables) → l.tables ≡ l.initial.tables)
