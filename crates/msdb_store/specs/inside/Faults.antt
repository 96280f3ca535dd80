-- A fault of a call, by its place in the queue.
use Rattle.std.specs.Prelude.{ℕ}
use Rattle.fld_calls.specs.declared.arguments.SettleFault.{SettleFault}
use Rattle.fld_calls.specs.declared.arguments.SettleFault.TheVariants as of_call
use Rattle.msdb_store.specs.declared.staged.VerifyFault.{VerifyFault}
use Rattle.msdb_store.specs.declared.staged.VerifyFault.TheVariants as of_queue

abbrev pub fault_at : ℕ → SettleFault → VerifyFault
fault_at call (of_call.Bad place found) = of_queue.Verify call place found
fault_at call of_call.Memory = of_queue.Memory
