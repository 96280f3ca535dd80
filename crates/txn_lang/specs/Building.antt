-- How a refusal is told: beside what reading the lines gives.
use Rattle.std.specs.Prelude.{⊤}
use Rattle.fp_model.specs.Asking.{cost}
use Rattle.txn_lang.specs.declared.fault.ScriptFault.{ScriptFault}
use Rattle.txn_lang.specs.declared.fault.ScriptFault.TheVariants as fault

-- a refusal is that of reading the lines; want of memory says nothing
abbrev pub Refuses : ScriptFault → Type 0 → Type 0
Refuses fault.Memory reason = ⊤
Refuses (fault.Syntax number) reason = reason
Refuses (fault.UnknownName number) reason = reason
Refuses (fault.TooDear name cost) reason = reason
Refuses (fault.Twice name) reason = reason
Refuses fault.TooLong reason = reason
