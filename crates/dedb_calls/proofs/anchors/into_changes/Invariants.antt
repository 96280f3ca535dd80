use Rattle.std.proofs.Common.{◌≡◌}
use Rattle.dedb_calls.specs.Anchors.{changes_in}
use Rattle.dedb_calls.proofs.anchors.into_changes.Given as goal

-- of those so far
abbrev pub invariant-loop-one : goal.invariant-loop-one
invariant-loop-one l = l.changes ≡ changes_in l.yielded
