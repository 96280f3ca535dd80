-- What bodies and proofs need of Running, beside what contracts say.
use Rattle.std.specs.Prelude.{◌≡◌, List}
use Rattle.fp_model.specs.declared.definitions.Defs.{Defs}
use Rattle.fp_model.specs.declared.calls.Message.{Message}
use Rattle.fp_model.specs.declared.calls.Answer.{Answer}
use Rattle.fp_model.specs.declared.calls.Call.{Call}
use Rattle.fp_model.specs.declared.scripts.Statement.{Statement}
use Rattle.txn_machine.specs.declared.program.Program.{Program}
use Rattle.txn_machine.specs.declared.program.Wait.{Wait}
use Rattle.txn_machine.specs.Knowing.{lesson_of}
use Rattle.txn_machine.specs.Running.{end_of, end_at_call}

-- ---- where the script is

-- where a program stands, its script comes to what follows behind this call
pub record StandsAtCall (defs : Defs) (statements : List Statement) (message : Message) (program : Program)
    (wait : Wait) : Type 0 where
  pub asked : Call
  pub lesson : wait.lesson ≡ lesson_of asked
  pub comes : (more : List Answer) → end_of defs statements message program more ≡ end_at_call defs statements message
      program asked wait.behind more
