use Rattle.std.proofs.Common.{drop}
use Rattle.std.specs.List.{AllByRecursion}
use Rattle.area_runs.specs.Bank.{IsBankDedb}
use Rattle.area_runs.proofs.bank.are_bank_dedbs.Given as goal

-- what is left decides
abbrev pub invariant-loop-dedb : goal.invariant-loop-dedb
invariant-loop-dedb l = AllByRecursion IsBankDedb (drop l.dedb-index l.dedbs) → AllByRecursion IsBankDedb l.dedbs
