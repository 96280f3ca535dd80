-- A program on its way through a script.
use Rattle.std.specs.Prelude.{◌≡◌, ⊤, ℕ, List, ◌++◌, Option, Some, IfSome}
use Rattle.fp_model.specs.declared.definitions.Defs.{Defs}
use Rattle.fp_model.specs.declared.definitions.MsdbDef.{MsdbDef}
use Rattle.fp_model.specs.declared.calls.Message.{Message}
use Rattle.fp_model.specs.declared.calls.Answer.{Answer}
use Rattle.fp_model.specs.declared.calls.Call.{Call}
use Rattle.fp_model.specs.declared.scripts.Statement.{Statement}
use Rattle.fp_model.specs.Asking.{Ask, Asks, Replies, Rolls, goes_on, called, ended, ask}
use Rattle.fp_model.specs.Calls.{database_of, target_of}
use Rattle.fp_model.specs.FitCalls.{FitsTarget, IsMsdbCall}
use Rattle.txn_machine.specs.declared.program.Program.{Program}
use Rattle.txn_machine.specs.declared.program.Wait.{Wait}
use Rattle.txn_machine.specs.declared.program.Next.{Next}
use Rattle.txn_machine.specs.declared.program.Next.TheVariants as next
use Rattle.txn_machine.specs.Knowing.{HasPlace, env_of, lesson_of}
use Rattle.txn_machine.specs.Fit.{AreShown, type_shown}
use Rattle.txn_machine.specs.Places.{block_at, from_place, around, end_from}

-- ---- answers

-- the program has given this call, and waits for its answer
pub record WaitsFor (asked : Call) (program : Program) : Type 0 where
  pub wait : Wait
  pub is : program.wait ≡ Some wait
  pub lesson : wait.lesson ≡ lesson_of asked
  pub place : HasPlace program.known.gets

-- it has given a call
abbrev pub IsWaiting : Program → Type 0
IsWaiting program = (asked : Call) × WaitsFor asked program

-- ---- where the script is

-- From where the program is, the script comes to this.
abbrev pub end_of : Defs → List Statement → Message → Program → List Answer → Ask
end_of defs statements message program more = end_from defs message statements program.place (env_of program.known more)

-- and from a call on, which stands before a place
abbrev pub end_at_call : Defs → List Statement → Message → Program → Call → ℕ → List Answer → Ask
end_at_call defs statements message program asked place more =
    ended (around defs message program.place.frames statements
    (goes_on (called asked (env_of program.known more))
    (from_place defs message place (block_at program.place.frames statements))))

-- the program stands at a call
pub record IsAtCall (defs : Defs) (statements : List Statement) (message : Message) (answers : List Answer)
    (program : Program) (wait : Wait) : Type 0 where
  pub asked : Call
  pub lesson : wait.lesson ≡ lesson_of asked
  pub comes : (more : List Answer) → ask defs statements message (answers ++ more) ≡ end_at_call defs statements message
      program asked wait.behind more

-- The program, given these answers, is where the script is: whatever is answered further, both come to the same.
pub record IsAt (defs : Defs) (statements : List Statement) (message : Message) (answers : List Answer)
    (program : Program) : Type 0 where
  pub comes : (more : List Answer) → ask defs statements message (answers ++ more) ≡ end_of defs statements message
      program more
  pub waits : IfSome program.wait (IsAtCall defs statements message answers program)

-- what is given is what the script asks
abbrev pub IsAsked : Next → Ask → Type 0
IsAsked (next.Call asked) end = end ≡ Asks asked
IsAsked (next.Reply text) end = end ≡ Replies text
IsAsked (next.Roll code) end = end ≡ Rolls code

-- at a call the program waits for it
abbrev pub Awaits : Next → Program → Type 0
Awaits (next.Call asked) program = WaitsFor asked program
Awaits (next.Reply text) program = ⊤
Awaits (next.Roll code) program = ⊤

-- ---- fit

-- every segment that the program was shown is a whole one of its database
pub record IsFit (defs : Defs) (program : Program) : Type 0 where
  pub shown : AreShown defs program.known.gets

-- a call fits its main storage database
abbrev pub IsFitNext : List MsdbDef → Next → Type 0
IsFitNext defs (next.Call asked) = IsMsdbCall defs asked
IsFitNext defs (next.Reply text) = ⊤
IsFitNext defs (next.Roll code) = ⊤

-- the types that it was shown last, by the number of the database
abbrev pub types_shown : Program → ℕ → Option ℕ
types_shown program db = type_shown program.known.gets db

-- a call fits its target, where these types were shown last
abbrev pub IsSuitedNext : Defs → (ℕ → Option ℕ) → Next → Type 0
IsSuitedNext defs shown (next.Call asked) =
    FitsTarget (target_of defs (database_of asked)) (shown (database_of asked)) asked
IsSuitedNext defs shown (next.Reply text) = ⊤
IsSuitedNext defs shown (next.Roll code) = ⊤
