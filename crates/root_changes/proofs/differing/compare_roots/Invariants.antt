use Rattle.std.proofs.Common.{◌≤◌, ◌-◌, length}
use Rattle.root_changes.specs.inside.Comparing.{TellsSoFar}
use Rattle.root_changes.specs.Differing.{RootDiffers}
use Rattle.root_changes.proofs.differing.compare_roots.Given as goal

-- the roots in front of the place are compared
abbrev pub invariant-loop-place : goal.invariant-loop-place
invariant-loop-place l = record {
  within : l.place ≤ length l.roots;
  told : TellsSoFar RootDiffers l.roots l.others l.place l.so_far;
}

abbrev pub decreases-loop-place : goal.decreases-loop-place
decreases-loop-place l = length l.roots - l.place
