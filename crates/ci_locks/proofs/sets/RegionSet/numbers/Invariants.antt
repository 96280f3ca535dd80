use Rattle.std.proofs.Common.{◌≡◌, filter}
use Rattle.fp_model.specs.State.{numbers_up}
use Rattle.ci_locks.specs.Sets.{has}
use Rattle.ci_locks.proofs.sets.RegionSet.numbers.Given as goal

abbrev pub invariant-loop-place : goal.invariant-loop-place
invariant-loop-place l = l.list ≡ filter (has l.self.0) (numbers_up l.place 1)
