use Rattle.std.proofs.Common.{◌-◌}
use Rattle.ci_space.specs.inside.Walk.{WalksTo}
use Rattle.ci_space.proofs.elements.start_of_free.Given as goal

abbrev pub invariant-loop-place : goal.invariant-loop-place
invariant-loop-place l = WalksTo l.bytes l.place l.start l.at

abbrev pub decreases-loop-place : goal.decreases-loop-place
decreases-loop-place l = l.at - l.place
