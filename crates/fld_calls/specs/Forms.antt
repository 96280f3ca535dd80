-- Field search arguments as the definitions see them, and with their letters.
use Rattle.std.specs.Prelude.{◌≡◌, ◌<◌, ℕ, List, [], ◌∷◌, length, map, Result, Ok, Err, ⊤}
use Rattle.fp_model.specs.Fsas.{Fsa, ListReading, Whole, Short, BadConnector}
use Rattle.fld_calls.specs.declared.arguments.Fsa.{Fsa as Argument}
use Rattle.fld_calls.specs.declared.arguments.FsaFault.{FsaFault}
use Rattle.fld_calls.specs.declared.arguments.LentFsa.{LentFsa}
use Rattle.fld_calls.specs.declared.arguments.FsaFault.TheVariants as fault

-- an argument as the definitions see it
abbrev pub form_of : Argument → Fsa
form_of argument = record {
  field = argument.field.0;
  status = argument.status;
  op = argument.op;
  operand =
      argument.operand;
}

-- one whose operand is lent
abbrev pub lent_form_of : LentFsa → Fsa
lent_form_of argument = record {
  field = argument.field.0;
  status = argument.status;
  op = argument.op;
  operand =
      argument.operand.now;
}

abbrev pub forms : List Argument → List Fsa
forms arguments = map form_of arguments

-- a letter for each as its status, and nothing else changed
abbrev pub with_letters : List Argument → List ℕ → List Argument
with_letters [] letters = []
with_letters (a ∷ others) [] = a ∷ others
with_letters (a ∷ others) (letter ∷ letters) = record a { status = letter } ∷ with_letters others letters

-- whether its operand's length fits two bytes
abbrev pub IsShort : Argument → Type 0
IsShort argument = length argument.operand < 65536

-- the bytes read so, unless memory ran out
abbrev pub IsReadAs : Result (List Argument) FsaFault → ListReading → Type 0
IsReadAs (Ok arguments) reading = reading ≡ Whole (forms arguments)
IsReadAs (Err (fault.Short place)) reading = reading ≡ Short place
IsReadAs (Err (fault.BadConnector place)) reading = reading ≡ BadConnector place
IsReadAs (Err fault.Memory) reading = ⊤
