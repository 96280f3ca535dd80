use Rattle.std.proofs.Common.{◌≡◌, drop}
use Rattle.fp_model.specs.WellFormed.{sequential_intervals}
use Rattle.dedb_area.proofs.opening.sequential_intervals.Given as goal

abbrev pub invariant-loop-def : goal.invariant-loop-def
invariant-loop-def l = sequential_intervals l.ci (drop l.def-index l.types) l.capacity ≡ sequential_intervals l.ci
    l.types l.capacity
