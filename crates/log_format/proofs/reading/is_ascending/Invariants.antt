use Rattle.std.proofs.Common.{◌≡◌, length}
use Rattle.fp_model.specs.ItemTargets.{is_ascending}
use Rattle.log_format.proofs.reading.is_ascending.Given as goal

-- what is left ascends exactly where the whole does
abbrev pub invariant-loop-rest : goal.invariant-loop-rest
invariant-loop-rest l = is_ascending l.items ≡ is_ascending l.rest

abbrev pub decreases-loop-rest : goal.decreases-loop-rest
decreases-loop-rest l = length l.rest
