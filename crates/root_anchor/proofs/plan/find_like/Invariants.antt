use Rattle.std.proofs.Common.{◌≡◌, ℕ, ◌<◌, ◌≤◌, ◌-◌, length}
use Rattle.root_anchor.specs.inside.Keeping.{IsLastOf}
use Rattle.root_anchor.proofs.plan.find_like.Given as goal

-- the last element of the type that has the key is still in front
abbrev pub invariant-loop-left : goal.invariant-loop-left
invariant-loop-left l = record {
  within : l.left ≤ length l.standing;
  last : (k : ℕ) → IsLastOf l.standing l.segment l.key k → l.from ≤ k → length l.standing ≤ l.to
      → (k < l.left) × (l.end ≡ length l.standing);
}

abbrev pub decreases-loop-left : goal.decreases-loop-left
decreases-loop-left l = l.left - l.from
