use Rattle.std.proofs.Common.{◌≡◌, ◌≤◌, ◌<◌, ◌-◌, ℕ, length, slice_get}
use Rattle.root_changes.proofs.gaining.common_nodes.Given as goal

-- what is in front of the place is the same
abbrev pub invariant-loop-place : goal.invariant-loop-place
invariant-loop-place l = record {
  within : l.place ≤ length l.row;
  within_other : l.place ≤ length l.other;
  alike : (j : ℕ) → j < l.place → slice_get l.row j ≡ slice_get l.other j;
}

abbrev pub decreases-loop-place : goal.decreases-loop-place
decreases-loop-place l = length l.row - l.place
