use Rattle.std.proofs.Common.{◌≡◌, drop, []}
use Rattle.fp_model.specs.Operands.{filled}
use Rattle.txn_machine.specs.Knowing.{env_of}
use Rattle.txn_machine.proofs.known.Known.filled.Given as goal

abbrev pub invariant-loop-value : goal.invariant-loop-value
invariant-loop-value l =
    filled l.defs l.message (env_of l.self []) l.fields (drop l.value-index l.values) l.segment ≡ filled l.defs
    l.message (env_of l.self []) l.fields l.values l.initial.segment
