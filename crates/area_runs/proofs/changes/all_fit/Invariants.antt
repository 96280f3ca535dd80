use Rattle.std.proofs.Common.{drop}
use Rattle.std.specs.List.{AllByRecursion}
use Rattle.area_runs.specs.Bank.{FitsBank}
use Rattle.area_runs.proofs.changes.all_fit.Given as goal

-- what is left decides
abbrev pub invariant-loop-item : goal.invariant-loop-item
invariant-loop-item l = AllByRecursion FitsBank (drop l.item-index l.items) → AllByRecursion FitsBank l.items
