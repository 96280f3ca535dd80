use Rattle.std.proofs.Common.{◌≡◌, drop, []}
use Rattle.fp_model.specs.Operands.{ssas_of}
use Rattle.txn_machine.specs.Knowing.{env_of}
use Rattle.txn_values.proofs.FieldLemmas.{prefixed}
use Rattle.txn_machine.proofs.known.Known.ssas_of.Given as goal

abbrev pub invariant-loop-ssa : goal.invariant-loop-ssa
invariant-loop-ssa l = prefixed l.found (ssas_of l.defs l.message (env_of l.self []) l.db
    (drop l.ssa-index l.ssas)) ≡ ssas_of l.defs l.message (env_of l.self []) l.db l.ssas
