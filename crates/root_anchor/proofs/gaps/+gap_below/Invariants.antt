use Rattle.std.proofs.Common.{◌-◌}
use Rattle.root_anchor.proofs.gaps.+gap_below.Given as goal

-- a child type's number is greater than its parent's
abbrev pub decreases-gap_below : goal.decreases-gap_below
decreases-gap_below g l = 16 - l.segment
