use Rattle.std.proofs.Common.{◌≡◌, length}
use Rattle.low_tests.proofs.queues.first_wrong.Given as goal

abbrev pub invariant-loop-place : goal.invariant-loop-place
invariant-loop-place g l = length l.queues.queues ≡ 2
