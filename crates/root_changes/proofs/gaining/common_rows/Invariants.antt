use Rattle.std.proofs.Common.{◌≡◌, ◌≤◌, ◌<◌, ◌-◌, ℕ, length, slice_get}
use Rattle.root_changes.proofs.gaining.common_rows.Given as goal

-- what is in front of the place is the same
abbrev pub invariant-loop-place : goal.invariant-loop-place
invariant-loop-place l = record {
  within : l.place ≤ length l.rows;
  within_other : l.place ≤ length l.others;
  alike : (j : ℕ) → j < l.place → slice_get l.rows j ≡ slice_get l.others j;
}

abbrev pub decreases-loop-place : goal.decreases-loop-place
decreases-loop-place l = length l.rows - l.place
