use Rattle.std.proofs.Common.{◌-◌, length}
use Rattle.ci_space.proofs.Standing.{WalksUpTo}
use Rattle.ci_space.proofs.elements.is_used_at.Given as goal

abbrev pub invariant-loop-place : goal.invariant-loop-place
invariant-loop-place l = WalksUpTo l.bytes l.place l.at

abbrev pub decreases-loop-place : goal.decreases-loop-place
decreases-loop-place l = length l.initial.bytes - l.place
