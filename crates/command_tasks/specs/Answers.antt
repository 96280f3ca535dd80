-- Which answers come where.
use Rattle.std.specs.Prelude.{⊤}
use Rattle.command_tasks.specs.declared.status.Status.{Status}
use Rattle.command_tasks.specs.declared.status.Status.TheVariants.{Usage, Definitions, Scripts, Schedule, ReadFault, SiteFault, Foreign, Damaged, NoMemory, NotBuilt, OldFormat}

-- an answer that may stand in the place of any other: a fault that was counted, or want of memory
abbrev pub MayStandIn : Status → Type 0
MayStandIn ReadFault = ⊤
MayStandIn SiteFault = ⊤
MayStandIn NoMemory = ⊤
MayStandIn _ = ⊥

-- an answer to the parts
abbrev pub IsOfParts : Status → Type 0
IsOfParts (Definitions fault) = ⊤
IsOfParts (Scripts fault) = ⊤
IsOfParts (Schedule fault) = ⊤
IsOfParts (NotBuilt part) = ⊤
IsOfParts ReadFault = ⊤
IsOfParts NoMemory = ⊤
IsOfParts _ = ⊥

-- an answer that comes before the site is looked at, and never behind that
abbrev pub IsEarly : Status → Type 0
IsEarly Usage = ⊤
IsEarly (Definitions fault) = ⊤
IsEarly (Scripts fault) = ⊤
IsEarly (Schedule fault) = ⊤
IsEarly (NotBuilt part) = ⊤
IsEarly _ = ⊥

-- an answer to the log that stands, in front of any line
abbrev pub IsOfLog : Status → Type 0
IsOfLog Foreign = ⊤
IsOfLog (Damaged set at) = ⊤
IsOfLog OldFormat = ⊤
IsOfLog _ = ⊥
