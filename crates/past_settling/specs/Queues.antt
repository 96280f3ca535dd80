-- A queue of calls on all databases: what each comes to, and what is left behind them.
use Rattle.std.specs.Prelude.{◌≡◌, ⊤, List, Result, Ok, Err}
use Rattle.fp_model.specs.Settle.{Stands, VerifyFails, settle}
use Rattle.fp_model.specs.declared.calls.Deferred.{Deferred}
use Rattle.fp_model.specs.declared.database.Msdb.{Msdb}
use Rattle.fp_model.specs.declared.definitions.MsdbDef.{MsdbDef}
use Rattle.past_settling.specs.declared.fault.QueueFault.{QueueFault}
use Rattle.past_settling.specs.declared.fault.QueueFault.TheVariants as queue

-- ---- what calls come to

-- so does a queue
abbrev pub IsQueue : List MsdbDef → List Deferred → List Msdb → Result ⊤ QueueFault → List Msdb → Type 0
IsQueue defs calls old (Ok done) new = settle defs old calls ≡ Stands new
IsQueue defs calls old (Err (queue.Verify call fsa found)) new = settle defs old calls ≡ VerifyFails call fsa found
IsQueue defs calls old (Err queue.Memory) new = ⊤

-- ---- taken back

-- where a call of a queue fails
abbrev pub IfVerify : Result ⊤ QueueFault → Type 0 → Type 0
IfVerify (Ok done) P = ⊤
IfVerify (Err (queue.Verify call fsa found)) P = P
IfVerify (Err queue.Memory) P = ⊤

-- whatever a queue comes to, but want of memory
abbrev pub OnFound : Result ⊤ QueueFault → Type 0 → Type 0
OnFound (Ok done) P = P
OnFound (Err (queue.Verify call fsa found)) P = P
OnFound (Err queue.Memory) P = ⊤
