-- What one step of a program does.
use Rattle.std.specs.Prelude.{◌≡◌, ⊤, ℕ, suc, ◌+◌, ◌*◌, ◌≤◌, List, [], length, Some, slice_get}
use Rattle.fp_model.specs.declared.definitions.Defs.{Defs}
use Rattle.fp_model.specs.declared.calls.Answer.{Answer}
use Rattle.fp_model.specs.declared.calls.Message.{Message}
use Rattle.fp_model.specs.declared.scripts.Statement.{Statement, out-Statement}
use Rattle.txn_machine.specs.declared.doing.Deed.{Deed}
use Rattle.txn_machine.specs.declared.doing.Deed.TheVariants as deed
use Rattle.txn_machine.specs.declared.place.Place.{Place}
use Rattle.txn_machine.specs.declared.program.Program.{Program}
use Rattle.txn_machine.specs.declared.program.Next.{Next}
use Rattle.txn_machine.specs.declared.program.Next.TheVariants as next
use Rattle.txn_machine.specs.inside.Doing.{Does}
use Rattle.txn_machine.specs.Places.{block_at, choice_in, loop_in}
use Rattle.txn_machine.specs.Running.{end_of}
use Rattle.txn_machine.specs.inside.Work.{statement_work, work_from}

-- a statement stands at a place
abbrev pub StandsHere : List Statement → Place → Statement → Type 0
StandsHere statements place s = slice_get (block_at place.frames statements) place.at ≡ Some s

-- no call
abbrev pub IsEnd : Next → Type 0
IsEnd (next.Call asked) = ⊥
IsEnd (next.Reply text) = ⊤
IsEnd (next.Roll code) = ⊤

-- what is done costs no more work than its statement has
abbrev pub Costs : Statement → Deed → Type 0
Costs s (deed.Choose holds) = 2 + work_from 0 (choice_in holds (out-Statement s)) ≤ statement_work s
Costs s (deed.Repeat left) = 2 + suc left * (1 + work_from 0 (loop_in (out-Statement s))) ≤ statement_work s
Costs s (deed.Set name text) = ⊤
Costs s deed.Pass = ⊤
Costs s deed.Leave = ⊤
Costs s (deed.Reply text) = ⊤
Costs s (deed.Roll code) = ⊤
Costs s (deed.Ask asked) = ⊤

-- from both places the script comes to the same, whatever is answered
pub record ComesAlike (defs : Defs) (statements : List Statement) (message : Message) (old new : Program) : Type 0 where
  pub comes : (more : List Answer) → end_of defs statements message old more ≡ end_of defs statements message new more

-- the deed of the statement at the place, in a script of so many statements
pub record IsDeed (defs : Defs) (statements : List Statement) (message : Message) (end : ℕ) (program : Program)
    (did : Deed) : Type 0 where
  pub ends : end ≡ length statements
  pub statement : Statement
  pub here : StandsHere statements program.place statement
  pub does : Does defs message program.known statement did
  pub costs : Costs statement did

-- what is given is that of the deed
abbrev pub IsGivenBy : Deed → Next → Type 0
IsGivenBy (deed.Ask asked) given = given ≡ next.Call asked
IsGivenBy (deed.Set name text) given = IsEnd given
IsGivenBy deed.Pass given = IsEnd given
IsGivenBy (deed.Choose holds) given = IsEnd given
IsGivenBy (deed.Repeat left) given = IsEnd given
IsGivenBy deed.Leave given = IsEnd given
IsGivenBy (deed.Reply text) given = IsEnd given
IsGivenBy (deed.Roll code) given = IsEnd given
