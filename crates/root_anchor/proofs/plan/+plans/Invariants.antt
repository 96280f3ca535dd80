use Rattle.std.proofs.Common.{◌≡◌, ◌≤◌, ◌+◌, ◌-◌, ◌*◌, ◌++◌, List, length, take, drop}
use Rattle.root_anchor.specs.Keeping.{keys_of_rows}
use Rattle.root_anchor.specs.inside.Keeping.{IsPlanning, keys_of_row, marks_of}
use Rattle.root_anchor.specs.inside.Rebuilding.{Shares, types_of, types_of_row, types_of_rows}
use Rattle.root_anchor.specs.declared.standing.Standing.{Standing}
use Rattle.root_anchor.proofs.plan.+plans.Given as goal

-- a child type's number is greater than its parent's
abbrev pub decreases-plan_row : goal.decreases-plan_row
decreases-plan_row l = 3 * (16 - l.segment) + 2

abbrev pub decreases-plan_segment : goal.decreases-plan_segment
decreases-plan_segment l = 3 * (16 - l.segment) + 1

abbrev pub decreases-plan_rows : goal.decreases-plan_rows
decreases-plan_rows l = 3 * (16 - l.segment)

-- the row is planned from `left` on
abbrev pub invariant-plan_row-loop-left : goal.invariant-plan_row-loop-left
invariant-plan_row-loop-left l = record {
  within : l.left ≤ length l.row;
  types : types_of l.plan.items ≡ types_of_row l.segments l.segment (drop l.left l.row) ++ types_of
      l.initial.plan.items;
  shares : (all : List Standing) → Shares all l.initial.plan.items l.initial.standing.items
      → Shares all l.plan.items l.standing.items;
  kept : (before part : List Standing) → l.initial.standing.items ≡ before ++ part
      → l.initial.to ≡ length l.initial.standing.items → l.from ≤ length before
      → marks_of part ≡ keys_of_row l.segments l.segment l.row
      → IsPlanning before part l.standing.items l.to l.initial.plan.items l.plan.items
      (keys_of_row l.segments l.segment (take l.left l.row));
}

abbrev pub decreases-plan_row-loop-left : goal.decreases-plan_row-loop-left
decreases-plan_row-loop-left l = l.left

-- the rows from `left` on are planned
abbrev pub invariant-plan_rows-loop-left : goal.invariant-plan_rows-loop-left
invariant-plan_rows-loop-left l = record {
  within : l.left ≤ length l.rows;
  types : types_of l.plan.items ≡ types_of_rows l.segments (drop l.left l.types.items) (drop l.left l.rows) ++ types_of
      l.initial.plan.items;
  shares : (all : List Standing) → Shares all l.initial.plan.items l.initial.standing.items
      → Shares all l.plan.items l.standing.items;
  kept : (before part : List Standing) → l.initial.standing.items ≡ before ++ part
      → l.initial.to ≡ length l.initial.standing.items → l.from ≤ length before
      → marks_of part ≡ keys_of_rows l.segments l.types.items l.rows
      → IsPlanning before part l.standing.items l.to l.initial.plan.items l.plan.items
      (keys_of_rows l.segments (take l.left l.types.items) (take l.left l.rows));
}

abbrev pub decreases-plan_rows-loop-left : goal.decreases-plan_rows-loop-left
decreases-plan_rows-loop-left l = l.left
