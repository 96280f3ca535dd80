-- What each event leaves as it is in every case.
use Rattle.std.specs.Prelude.{◌≡◌, List, ◌++◌}
use Rattle.fp_model.specs.declared.events.Event.{Event}
use Rattle.fp_model.specs.declared.events.Event.TheVariants as event
use Rattle.fp_model.specs.declared.log.Entry.{Entry}
use Rattle.fp_model.specs.Machine.{Machine}

-- the lines left, and the one held
pub record KeepsLines (m m2 : Machine) : Type 0 where
  pub lines : m2.lines ≡ m.lines
  pub held : m2.held ≡ m.held

-- what is sealed and sent
pub record KeepsSealed (m m2 : Machine) : Type 0 where
  pub sealed : m2.sealed ≡ m.sealed
  pub groups : m2.groups ≡ m.groups
  pub sent : m2.sent ≡ m.sent

-- the regions, with their locks and requests
pub record KeepsRegions (m m2 : Machine) : Type 0 where
  pub regions : m2.regions ≡ m.regions
  pub locks : m2.locks ≡ m.locks
  pub requests : m2.requests ≡ m.requests

-- the entries, and the states that they lead through
abbrev pub KeepsHistory : Machine → Machine → Type 0
KeepsHistory m m2 = m2.history ≡ m.history

-- the messages that wait
abbrev pub KeepsQueues : Machine → Machine → Type 0
KeepsQueues m m2 = m2.queues ≡ m.queues

-- the terminals that wait
abbrev pub KeepsBusy : Machine → Machine → Type 0
KeepsBusy m m2 = m2.busy ≡ m.busy

-- What each event leaves as it is, whatever befalls it.
abbrev pub Keeps : Event → Machine → Machine → Type 0
Keeps event.In m m2 = KeepsSealed m m2 × KeepsRegions m m2
Keeps (event.Region region) m m2 = KeepsLines m m2 × KeepsSealed m m2 × KeepsBusy m m2
Keeps event.Log m m2 = KeepsLines m m2 × KeepsQueues m m2 × KeepsRegions m m2 × KeepsHistory m m2
Keeps event.Out m m2 = m2 ≡ m
Keeps event.Ckpt m m2 = KeepsLines m m2 × KeepsQueues m m2 × KeepsRegions m m2 × KeepsHistory m m2
Keeps (event.Purge set n) m m2 =
    KeepsLines m m2 × KeepsSealed m m2 × KeepsRegions m m2 × KeepsQueues m m2 × KeepsBusy m m2

-- entries are only added
abbrev pub AddsEntries : Machine → Machine → Type 0
AddsEntries m m2 = (more : List Entry) × (m2.history.entries ≡ m.history.entries ++ more)
