use Rattle.std.proofs.Common.{◌≡◌, ◌≤◌, ◌<◌, ◌-◌, ℕ, length, slice_get}
use Rattle.root_changes.proofs.differing.same_items.Given as goal

-- the items in front of the place are the same
abbrev pub invariant-loop-place : goal.invariant-loop-place
invariant-loop-place l = record {
  within : l.place ≤ length l.items;
  same : (j : ℕ) → j < l.place → slice_get l.items j ≡ slice_get l.others j;
}

abbrev pub decreases-loop-place : goal.decreases-loop-place
decreases-loop-place l = length l.items - l.place
