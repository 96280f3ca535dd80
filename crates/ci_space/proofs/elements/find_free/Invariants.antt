use Rattle.std.proofs.Common.{◌-◌, length}
use Rattle.ci_space.specs.inside.Walk.{WalksPast}
use Rattle.ci_space.proofs.elements.find_free.Given as goal

abbrev pub invariant-loop-at : goal.invariant-loop-at
invariant-loop-at l = WalksPast l.bytes l.size l.at

abbrev pub decreases-loop-at : goal.decreases-loop-at
decreases-loop-at l = length l.initial.bytes - l.at
