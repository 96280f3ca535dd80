use Rattle.std.proofs.Common.{◌≤◌, ◌-◌, ◌+◌, ◌*◌, length}
use Rattle.root_changes.specs.inside.Comparing.{TellsSoFar}
use Rattle.root_changes.specs.Differing.{NodesDiffer, RowDiffers}
use Rattle.root_changes.proofs.differing.+compares.Given as goal

-- the dependents in front of the place are compared
abbrev pub invariant-compare_row-loop-place : goal.invariant-compare_row-loop-place
invariant-compare_row-loop-place l = record {
  within : l.place ≤ length l.row;
  told : TellsSoFar NodesDiffer l.row l.other l.place l.so_far;
}

abbrev pub decreases-compare_row-loop-place : goal.decreases-compare_row-loop-place
decreases-compare_row-loop-place l = length l.row - l.place

-- and the rows
abbrev pub invariant-compare_rows-loop-place : goal.invariant-compare_rows-loop-place
invariant-compare_rows-loop-place l = record {
  within : l.place ≤ length l.rows;
  told : TellsSoFar RowDiffers l.rows l.others l.place l.so_far;
}

abbrev pub decreases-compare_rows-loop-place : goal.decreases-compare_rows-loop-place
decreases-compare_rows-loop-place l = length l.rows - l.place

-- the depth of what is compared; at one depth a segment's rows come before a row, and a row before its segments
abbrev pub decreases-compare_below : goal.decreases-compare_below
decreases-compare_below l = 4 * goal.size-compare_below l + 3

abbrev pub decreases-compare_rows : goal.decreases-compare_rows
decreases-compare_rows l = 4 * goal.size-compare_rows l + 2

abbrev pub decreases-compare_row : goal.decreases-compare_row
decreases-compare_row l = 4 * goal.size-compare_row l + 1

abbrev pub decreases-compare_nodes : goal.decreases-compare_nodes
decreases-compare_nodes l = 4 * goal.size-compare_nodes l
