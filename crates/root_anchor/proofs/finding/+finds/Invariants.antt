use Rattle.std.proofs.Common.{◌+◌, ◌-◌, ◌*◌}
use Rattle.root_anchor.proofs.finding.+finds.Given as goal

-- a child type's number is greater than its parent's
abbrev pub decreases-find_in_row : goal.decreases-find_in_row
decreases-find_in_row g l = 2 * (16 - l.segment) + 1

abbrev pub decreases-find_below : goal.decreases-find_below
decreases-find_below g l = 2 * (16 - l.segment)
