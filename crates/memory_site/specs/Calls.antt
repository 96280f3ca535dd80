-- The history that a site in memory keeps: what it began with, its calls, and the bytes of its writes and sends.
use Rattle.std.specs.Prelude.{ℕ, ◌+◌, List, [], ◌∷◌, take, drop}
use Rattle.memory_site.specs.declared.call.Call.{Call}
use Rattle.memory_site.specs.declared.call.Call.TheVariants.{Write, Sync, Send}
use Rattle.memory_site.specs.declared.snapshot.Snapshot.{Snapshot as Kept}
use Rattle.memory_site.specs.History.{Event, History}
use Rattle.memory_site.specs.History.Event.{Opened, Wrote, Synced, Sent}
use Rattle.memory_site.specs.Sets.{image_at}

-- how many bytes are kept of a call
abbrev pub bytes_of : Call → ℕ
bytes_of (Write set at count) = count
bytes_of (Sync set) = 0
bytes_of (Send count) = count

-- and of calls
abbrev pub bytes_of_all : List Call → ℕ
bytes_of_all [] = 0
bytes_of_all (call ∷ calls) = bytes_of call + bytes_of_all calls

-- the event that a call stands for, where its bytes are the first of these
abbrev pub event_of : Call → List ℕ → Event
event_of (Write set at count) bytes = Wrote set at (take count bytes)
event_of (Sync set) bytes = Synced set
event_of (Send count) bytes = Sent (take count bytes)

-- these calls, with the bytes kept of them, after that history
abbrev pub history_onto : List Call → List ℕ → History → History
history_onto [] bytes before = before
history_onto (call ∷ calls) bytes before = history_onto calls (drop (bytes_of call) bytes)
    (event_of call bytes ∷ before)

-- what a site that began so has been through
abbrev pub history_of : Kept → List Call → List ℕ → History
history_of start calls bytes = history_onto calls bytes (Opened (image_at start.images) start.sent ∷ [])
