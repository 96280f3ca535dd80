use Rattle.std.proofs.Common.{◌≤◌, List, length}
use Rattle.ci_space.specs.Calls.{GoesOn}
use Rattle.root_anchor.specs.inside.Rebuilding.{IsPlanned, types_of_roots}
use Rattle.root_anchor.specs.declared.plan.Planned.{Planned}
use Rattle.root_anchor.proofs.Growing.{RootsDone}
use Rattle.root_anchor.proofs.building.build_roots.Given as goal

-- the roots from `left` on are built
abbrev pub invariant-loop-left : goal.invariant-loop-left
invariant-loop-left g l = record {
  within : l.left ≤ length l.roots;
  number : g.I.Intervals.number l.initial.i ≤ g.I.Intervals.number l.i;
  goes_on : GoesOn g.I.Intervals.told g.I.Intervals.size g.I.Intervals.faults g.I.Intervals.keeps l.initial.i l.i;
  done : g.I.Intervals.told l.initial.i → (before used : List Planned)
      → IsPlanned l.home.segments.now (g.I.Intervals.intervals l.initial.i) l.initial.plan.items before
      used (types_of_roots l.home.segments.now l.roots)
      → RootsDone l.home.shape.now l.home.segments.now (g.I.Intervals.intervals l.initial.i)
      (g.I.Intervals.intervals l.i) l.plan.items before used l.roots l.left l.next;
}

abbrev pub decreases-loop-left : goal.decreases-loop-left
decreases-loop-left g l = l.left
