use Rattle.std.proofs.Common.{ℕ, ◌+◌, ◌-◌, ◌≤◌, length}
use Rattle.fp_model.specs.State.{first_area_set}
use Rattle.dedb_area.specs.Anchors.{HasAnchorIn}
use Rattle.dedb_area.proofs.anchors.area_of.Given as goal

-- no area before has the anchor
abbrev pub invariant-areas : goal.invariant-areas
invariant-areas l = (set : ℕ) → HasAnchorIn l.places l.dedb l.anchor set → first_area_set + l.number ≤ set

abbrev pub decreases-areas : goal.decreases-areas
decreases-areas l = length l.places - l.number
