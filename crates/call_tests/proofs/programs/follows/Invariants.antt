use Rattle.std.proofs.Common.{◌<◌, length}
use Rattle.call_tests.proofs.programs.follows.Given as goal

abbrev pub invariant-loop-turn : goal.invariant-loop-turn
invariant-loop-turn l = l.program.number < length l.scripts.scripts
