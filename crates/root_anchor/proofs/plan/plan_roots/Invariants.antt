use Rattle.std.proofs.Common.{◌≡◌, ◌≤◌, [], length, take, drop}
use Rattle.root_anchor.specs.Keeping.{keys_of_roots}
use Rattle.root_anchor.specs.inside.Keeping.{IsPlanning, marks_of}
use Rattle.root_anchor.specs.inside.Rebuilding.{Shares, types_of, types_of_roots}
use Rattle.root_anchor.proofs.plan.plan_roots.Given as goal

-- the roots from `left` on are planned
abbrev pub invariant-loop-left : goal.invariant-loop-left
invariant-loop-left l = record {
  within : l.left ≤ length l.roots;
  types : types_of l.plan.items ≡ types_of_roots l.segments (drop l.left l.roots);
  shares : Shares l.initial.standing.items l.plan.items l.standing.items;
  kept : marks_of l.initial.standing.items ≡ keys_of_roots l.segments l.roots
      → IsPlanning [] l.initial.standing.items l.standing.items l.to [] l.plan.items
      (keys_of_roots l.segments (take l.left l.roots));
}

abbrev pub decreases-loop-left : goal.decreases-loop-left
decreases-loop-left l = l.left
