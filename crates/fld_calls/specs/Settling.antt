-- What a list of arguments comes to at settling.
use Rattle.std.specs.Prelude.{◌≡◌, ⊤, ℕ, List, None, Some, Result, Ok, Err}
use Rattle.fp_model.specs.declared.definitions.MsdbDef.{MsdbDef}
use Rattle.fp_model.specs.Fsas.{Fsa, first_failure, list_on}
use Rattle.fld_calls.specs.declared.arguments.SettleFault.{SettleFault}
use Rattle.fld_calls.specs.declared.arguments.SettleFault.TheVariants as fault

-- None fails and the segment has their changes, or this is the first that fails; want of memory says nothing.
abbrev pub IsSettled : MsdbDef → List Fsa → List ℕ → Result ⊤ SettleFault → List ℕ → Type 0
IsSettled def fsas old (Ok done) new = (first_failure def 0 fsas old ≡ None) × (new ≡ (list_on def fsas old).segment)
IsSettled def fsas old (Err (fault.Bad place found)) new =
    first_failure def 0 fsas old ≡ Some (record { place = place; found = found })
IsSettled def fsas old (Err fault.Memory) new = ⊤
