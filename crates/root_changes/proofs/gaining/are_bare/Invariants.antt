use Rattle.std.proofs.Common.{◌≤◌, ◌-◌, length, take}
use Rattle.root_changes.specs.Gaining.{AreBare}
use Rattle.root_changes.proofs.gaining.are_bare.Given as goal

-- the rows in front of the place are empty
abbrev pub invariant-loop-place : goal.invariant-loop-place
invariant-loop-place l = record {
  within : l.place ≤ length l.rows;
  bare : AreBare (take l.place l.rows);
}

abbrev pub decreases-loop-place : goal.decreases-loop-place
decreases-loop-place l = length l.rows - l.place
