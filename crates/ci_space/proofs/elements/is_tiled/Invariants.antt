use Rattle.std.proofs.Common.{◌≤◌, ◌-◌, ◌↔◌, false, length}
use Rattle.ci_space.specs.Walk.{TilesFrom}
use Rattle.ci_space.proofs.elements.is_tiled.Given as goal

abbrev pub invariant-loop-at : goal.invariant-loop-at
invariant-loop-at l = (l.at ≤ length l.bytes) × (TilesFrom l.bytes l.at l.after_free ↔ TilesFrom l.bytes 32 false)

abbrev pub decreases-loop-at : goal.decreases-loop-at
decreases-loop-at l = length l.initial.bytes - l.at
