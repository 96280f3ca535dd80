-- What is owed, as the list of waiting intervals has it that goes along a run of turns.
use Rattle.std.specs.Prelude.{List, Option, Some, None, find}
use Rattle.fp_model.specs.Pending.{Pending, is_of}
use Rattle.area_redo.specs.Standing.{Due, Owed}

-- how one of these intervals waits
abbrev pub due_of : Option Pending → Option Due
due_of None = None
due_of (Some p) = Some (record { oldest = p.oldest; newest = p.newest })

-- what the list has of each interval
abbrev pub owed_in : List Pending → Owed
owed_in pending = λ set ci. due_of (find (is_of set ci) pending)
