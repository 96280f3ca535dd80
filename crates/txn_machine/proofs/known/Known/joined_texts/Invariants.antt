use Rattle.std.proofs.Common.{◌≡◌, drop, []}
use Rattle.fp_model.specs.Operands.{joined_texts}
use Rattle.txn_machine.specs.Knowing.{env_of}
use Rattle.txn_values.proofs.FieldLemmas.{prefixed}
use Rattle.txn_machine.proofs.known.Known.joined_texts.Given as goal

abbrev pub invariant-loop-operand : goal.invariant-loop-operand
invariant-loop-operand l =
    prefixed l.joined (joined_texts l.defs l.message (env_of l.self []) (drop l.operand-index l.operands)) ≡
    joined_texts l.defs l.message (env_of l.self []) l.operands
