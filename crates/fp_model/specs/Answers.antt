-- What calls are answered: status letters, a segment shown, the letters of a field call.
use Rattle.std.specs.Prelude.{ℕ, List, [], codes, Bool, true, false, if◌then◌else◌, Option, Some, None}
use Rattle.fp_model.specs.declared.calls.Answer.{Answer}
use Rattle.fp_model.specs.declared.calls.Resource.{Resource}
use Rattle.fp_model.specs.declared.calls.Mode.{Mode}
use Rattle.fp_model.specs.declared.calls.Mode.TheVariants.{Share, Exclusive}
use Rattle.fp_model.specs.Workspace.{Workspace}

-- an answer, and what the transaction keeps after it
pub record Replied : Type 0 where
  pub answer : Answer
  pub own : Workspace

-- a lock that is still needed
pub record Needed : Type 0 where
  pub resource : Resource
  pub mode : Mode

-- all is well
abbrev pub blank : List ℕ
blank = codes "  "

-- two letters and nothing else
abbrev pub answered : List ℕ → Answer
answered status = record { status = status; segment = 0; bytes = []; letters = [] }

-- a segment of a type, found
abbrev pub showing : ℕ → List ℕ → Answer
showing type bytes = record { status = blank; segment = type; bytes = bytes; letters = [] }

-- the letters of a field call, one for each of its search arguments
abbrev pub lettered : List ℕ → List ℕ → Answer
lettered status letters = record { status = status; segment = 0; bytes = []; letters = letters }

-- whether a lock that is held serves one that is needed
abbrev pub serves : Option Mode → Mode → Bool
serves None mode = false
serves (Some Exclusive) mode = true
serves (Some Share) Share = true
serves (Some Share) Exclusive = false

-- the lock, unless it is held
abbrev pub unless_held : (Resource → Option Mode) → Needed → Option Needed
unless_held held needed = if serves (held needed.resource) needed.mode then None else Some needed
