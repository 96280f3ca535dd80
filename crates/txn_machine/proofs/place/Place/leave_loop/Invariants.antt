use Rattle.std.proofs.Common.{◌≡◌, ◌≤◌, List, length}
use Rattle.fp_model.specs.declared.calls.Message.{Message}
use Rattle.fp_model.specs.declared.definitions.Defs.{Defs}
use Rattle.fp_model.specs.declared.scripts.Statement.{Statement}
use Rattle.fp_model.specs.Operands.{Env}
use Rattle.fp_model.specs.Asking.{Leaves}
use Rattle.txn_machine.specs.Places.{around}
use Rattle.txn_machine.specs.inside.Work.{work_around}
use Rattle.txn_machine.proofs.place.Place.leave_loop.Given as goal

abbrev pub invariant-loop-frame : goal.invariant-loop-frame
invariant-loop-frame l = record {
  leads : (defs : Defs) (message : Message) (statements : List Statement) (env : Env)
      → around defs message l.initial.self.frames statements (Leaves env) ≡ around defs message l.self.frames statements
      (Leaves env);
  less : (statements : List Statement) → work_around l.self.frames statements ≤ work_around l.initial.self.frames
      statements;
}

abbrev pub decreases-loop-frame : goal.decreases-loop-frame
decreases-loop-frame l = length l.self.frames
