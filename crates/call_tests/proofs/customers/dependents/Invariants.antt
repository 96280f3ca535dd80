use Rattle.std.specs.List.{AllByRecursion}
use Rattle.state_laws.specs.Parts.{FitsSeqInsert}
use Rattle.call_tests.proofs.customers.dependents.Given as goal

abbrev pub invariant-loop-key : goal.invariant-loop-key
invariant-loop-key l = AllByRecursion (FitsSeqInsert l.defs) l.inserts
