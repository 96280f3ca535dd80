use Rattle.std.proofs.Common.{ℕ, ◌+◌, ◌≤◌}
use Rattle.fp_model.specs.State.{first_area_set}
use Rattle.dedb_area.specs.Anchors.{HasAnchorIn}
use Rattle.dedb_area.proofs.anchors.some_area.Given as goal

-- no area before has the anchor
abbrev pub invariant-loop-place : goal.invariant-loop-place
invariant-loop-place l =
    (set : ℕ) → HasAnchorIn l.places l.dedb l.anchor set → first_area_set + l.place-index ≤ set
