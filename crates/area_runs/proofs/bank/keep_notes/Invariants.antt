use Rattle.std.proofs.Common.{drop}
use Rattle.std.specs.List.{AllByRecursion}
use Rattle.area_runs.specs.Bank.{KeepsNotes}
use Rattle.area_runs.proofs.bank.keep_notes.Given as goal

-- what is left decides
abbrev pub invariant-loop-area : goal.invariant-loop-area
invariant-loop-area l = AllByRecursion KeepsNotes (drop l.area-index l.areas) → AllByRecursion KeepsNotes l.areas
