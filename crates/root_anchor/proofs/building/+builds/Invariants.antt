use Rattle.std.proofs.Common.{◌≡◌, ◌≤◌, ◌+◌, ◌-◌, ◌*◌, List, length}
use Rattle.ci_space.specs.Calls.{GoesOn}
use Rattle.root_anchor.specs.inside.Rebuilding.{IsPlanned, types_of_row, types_of_rows}
use Rattle.root_anchor.specs.declared.plan.Planned.{Planned}
use Rattle.root_anchor.proofs.Growing.{RowDone, RowsDone}
use Rattle.root_anchor.proofs.building.+builds.Given as goal

-- a child type's number is greater than its parent's
abbrev pub decreases-build_row : goal.decreases-build_row
decreases-build_row g l = 3 * (16 - l.segment) + 2

abbrev pub decreases-build_segment : goal.decreases-build_segment
decreases-build_segment g l = 3 * (16 - l.segment) + 1

abbrev pub decreases-build_rows : goal.decreases-build_rows
decreases-build_rows g l = 3 * (16 - l.segment)

-- the row is built from `left` on
abbrev pub invariant-build_row-loop-left : goal.invariant-build_row-loop-left
invariant-build_row-loop-left g l = record {
  within : l.left ≤ length l.row;
  number : g.I.Intervals.number l.initial.i ≤ g.I.Intervals.number l.i;
  goes_on : GoesOn g.I.Intervals.told g.I.Intervals.size g.I.Intervals.faults g.I.Intervals.keeps l.initial.i l.i;
  done : g.I.Intervals.told l.initial.i → (before used : List Planned)
      → IsPlanned l.home.segments.now (g.I.Intervals.intervals l.initial.i) l.initial.plan.items before
      used (types_of_row l.home.segments.now l.segment l.row)
      → RowDone l.home.shape.now l.home.segments.now (g.I.Intervals.intervals l.initial.i) (g.I.Intervals.intervals l.i)
      l.plan.items before used l.segment l.row l.left l.next;
}

abbrev pub decreases-build_row-loop-left : goal.decreases-build_row-loop-left
decreases-build_row-loop-left g l = l.left

-- the rows from `left` on are built
abbrev pub invariant-build_rows-loop-left : goal.invariant-build_rows-loop-left
invariant-build_rows-loop-left g l = record {
  within : l.left ≤ length l.rows;
  count : length l.firsts.items ≡ length l.rows;
  number : g.I.Intervals.number l.initial.i ≤ g.I.Intervals.number l.i;
  goes_on : GoesOn g.I.Intervals.told g.I.Intervals.size g.I.Intervals.faults g.I.Intervals.keeps l.initial.i l.i;
  done : g.I.Intervals.told l.initial.i → (before used : List Planned)
      → IsPlanned l.home.segments.now (g.I.Intervals.intervals l.initial.i) l.initial.plan.items before
      used (types_of_rows l.home.segments.now l.types.items l.rows)
      → RowsDone l.home.shape.now l.home.segments.now (g.I.Intervals.intervals l.initial.i)
      (g.I.Intervals.intervals l.i) l.plan.items before used l.types.items l.rows l.left l.firsts.items;
}

abbrev pub decreases-build_rows-loop-left : goal.decreases-build_rows-loop-left
decreases-build_rows-loop-left g l = l.left
