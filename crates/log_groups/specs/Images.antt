-- A log in a data set, and what a crash leaves of it.
use Rattle.std.specs.Prelude.{◌≡◌, ◌≢◌, ◌⊎◌, ℕ, ◌+◌, ◌<◌, List, [], ◌∷◌, ◌++◌, length, take, drop, slice_index}
use Rattle.fp_site.specs.Disk.{Disk, Snapshot, IsDurable, Settles}
use Rattle.fp_model.specs.declared.log.Entry.{Entry}
use Rattle.fp_model.specs.LogText.{Front, IsFormat, StartsWithFront, first_gate, group_text}
use Rattle.fp_model.specs.Groups.{Groups, Reads}
use Rattle.fp_model.specs.Recovery.{Holds}
use Rattle.log_groups.specs.declared.front.Front.{Front as Kept}

-- the front that a program's values are
abbrev pub as_front : Kept → Front
as_front front = record { format = front.format; defs = front.defs; scripts = front.scripts }

-- the front of a format for the same definitions and scripts
abbrev pub in_format : ℕ → Front → Front
in_format format front = record { format = format; defs = front.defs; scripts = front.scripts }

-- the bytes of a log that was made for these definitions and scripts, in whichever format
pub record BeginsFor (front : Front) (bytes : List ℕ) : Type 0 where
  pub format : ℕ
  pub is_format : IsFormat format
  pub begins : StartsWithFront bytes (in_format format front)

-- they hold these groups up to a gate that isn't open
pub record HoldsFor (front : Front) (bytes : List ℕ) (groups : List (List Entry)) (gate : ℕ) : Type 0 where
  pub begins : BeginsFor front bytes
  pub reads : Reads bytes (first_gate front) (Groups groups gate)

-- The bytes of a log: the open front, these groups, and the next gate, which is there and isn't open.
pub record IsLog (front : Front) (bytes : List ℕ) (groups : List (List Entry)) (gate : ℕ) : Type 0 where
  pub holds : Holds front bytes groups gate
  pub stands : gate < length bytes

-- A disk whose log every crash leaves, and holds these groups up to a gate that isn't open. That gate may be absent:
-- then the log ends with its last group.
pub record IsKept (disk : Disk) (front : Front) (groups : List (List Entry)) (gate : ℕ) : Type 0 where
  pub durable : IsDurable disk 0
  pub holds : Holds front (disk.contents 0) groups gate

-- all bytes in front of a gate are as they were
abbrev pub IsFrontOf : List ℕ → ℕ → List ℕ → Type 0
IsFrontOf old gate image = take gate image ≡ take gate old

-- the log that a crash left has them
abbrev pub HasFrontOf : List ℕ → ℕ → Snapshot → Type 0
HasFrontOf old gate s = IsFrontOf old gate (s.images 0)

-- a disk whose log is this one, so that every crash leaves it
pub record IsAtRest (disk : Disk) (front : Front) (groups : List (List Entry)) (gate : ℕ) : Type 0 where
  pub durable : IsDurable disk 0
  pub log : IsLog front (disk.contents 0) groups gate

-- the place of the gate behind one group more
abbrev pub gate_behind : ℕ → List Entry → ℕ
gate_behind gate entries = gate + length (group_text entries)

-- Bytes with one group more: behind the gate the group, the next gate, closed, and what stood behind that before.
abbrev pub with_group_at : List ℕ → ℕ → List Entry → List ℕ
with_group_at old gate entries =
    take gate old ++ (group_text entries ++ (0 ∷ drop (gate_behind gate entries + 1) old))

-- groups and one more of these entries, where there are any
abbrev pub with_group : List (List Entry) → List Entry → List (List Entry)
with_group groups [] = groups
with_group groups (e ∷ entries) = groups ++ (e ∷ entries) ∷ []

-- a log with these groups, or with one more, whole
abbrev pub IsWithOrWithout : Front → List (List Entry) → ℕ → List Entry → List ℕ → Type 0
IsWithOrWithout front groups gate entries image =
    IsLog front image groups gate ⊎ IsLog front image (groups ++ entries ∷ []) (gate_behind gate entries)

-- the log that a crash left has these groups, or one more, whole
abbrev pub IsBeforeOrAfter : Front → List (List Entry) → ℕ → List Entry → Snapshot → Type 0
IsBeforeOrAfter front groups gate entries s = IsWithOrWithout front groups gate entries (s.images 0)

-- the front's gate is there, and isn't open
pub record IsShutGate (bytes : List ℕ) : Type 0 where
  pub some : 0 < length bytes
  pub gate : slice_index bytes 0 ≢ 1

-- a disk whose log is shut, and every crash leaves it so
pub record IsShut (disk : Disk) : Type 0 where
  pub durable : IsDurable disk 0
  pub gate : IsShutGate (disk.contents 0)

-- bytes that begin with no open front, so that no log is opened
abbrev pub HasNoFront : List ℕ → Type 0
HasNoFront bytes = (front : Front) → StartsWithFront bytes front → ⊥

-- An image that a sync might have left at the start, or that begins with no open front.
abbrev pub IsOldOrShut : Disk → List ℕ → Type 0
IsOldOrShut start image = Settles start 0 image ⊎ HasNoFront image

-- the same, or it is this front's new log, with no groups
abbrev pub IsOldOrMade : Disk → Front → List ℕ → Type 0
IsOldOrMade start front image = IsOldOrShut start image ⊎ IsLog front image [] (first_gate front)

-- The log that a crash left is as a sync might have left it at the start, or begins with no open front.
abbrev pub IsBeforeOrShut : Disk → Snapshot → Type 0
IsBeforeOrShut start s = IsOldOrShut start (s.images 0)

-- the same, or it is this front's new log, with no groups
abbrev pub IsBeforeOrMade : Disk → Front → Snapshot → Type 0
IsBeforeOrMade start front s = IsOldOrMade start front (s.images 0)

-- The log is what it was, or begins with no open front.
abbrev pub IsSameOrShut : List ℕ → List ℕ → Type 0
IsSameOrShut before now = (now ≡ before) ⊎ HasNoFront now

-- the same, or it is this front's new log, with no groups
abbrev pub IsSameOrMade : Front → List ℕ → List ℕ → Type 0
IsSameOrMade front before now = IsSameOrShut before now ⊎ IsLog front now [] (first_gate front)
