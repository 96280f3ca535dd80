use Rattle.std.proofs.Common.{drop}
use Rattle.std.specs.List.{AllByRecursion}
use Rattle.area_runs.specs.Bank.{HasCustomers}
use Rattle.area_runs.proofs.changes.have_customers.Given as goal

-- what is left decides
abbrev pub invariant-loop-change : goal.invariant-loop-change
invariant-loop-change l = AllByRecursion HasCustomers (drop l.change-index l.changes) → AllByRecursion HasCustomers l.changes
