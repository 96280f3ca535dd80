use Rattle.std.proofs.Common.{drop}
use Rattle.std.specs.List.{AllByRecursion}
use Rattle.area_runs.specs.Bank.{IsNote}
use Rattle.area_runs.proofs.changes.are_notes.Given as goal

-- what is left decides
abbrev pub invariant-loop-insert : goal.invariant-loop-insert
invariant-loop-insert l = AllByRecursion IsNote (drop l.insert-index l.inserts) → AllByRecursion IsNote l.inserts
