use Rattle.std.specs.List.{AllByRecursion}
use Rattle.area_runs.specs.Bank.{HasCustomers}
use Rattle.area_tests.proofs.states.changes_of.Given as goal

abbrev pub invariant-loop-anchor : goal.invariant-loop-anchor
invariant-loop-anchor l = AllByRecursion HasCustomers l.changes
