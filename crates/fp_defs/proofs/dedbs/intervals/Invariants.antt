use Rattle.std.proofs.Common.{◌≡◌, ◌≤◌, ◌*◌, ◌^◌, take, sum_by}
use Rattle.fp_model.specs.WellFormed.{formatted_intervals}
use Rattle.fp_defs.proofs.dedbs.intervals.Given as goal

abbrev pub invariant-loop-area : goal.invariant-loop-area
invariant-loop-area l = (l.sum ≡ sum_by (formatted_intervals l.def) (take l.area-index l.def.areas))
    × (l.sum ≤ 2 ^ 52 * l.area-index)
