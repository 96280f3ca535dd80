use Rattle.std.proofs.Common.{◌≡◌, ◌≤◌, ◌++◌, List, All, length}
use Rattle.ci_space.specs.Calls.{GoesOn}
use Rattle.ci_overflow.specs.Known.{HasSeen}
use Rattle.ci_overflow.specs.Places.{uow_of}
use Rattle.anchor_elements.specs.Elements.{Pointer}
use Rattle.root_anchor.specs.Faults.{ComesTo}
use Rattle.root_anchor.specs.inside.Rebuilding.{ArePlaced, AreReserved, IsDirect, IsTaking, types_of}
use Rattle.root_anchor.proofs.taking.take_places.Given as goal

-- the last segments of the plan have places
abbrev pub invariant-loop-planned : goal.invariant-loop-planned
invariant-loop-planned g l = record {
  number : g.I.Intervals.number l.initial.i ≤ g.I.Intervals.number l.i;
  goes_on : GoesOn g.I.Intervals.told g.I.Intervals.size g.I.Intervals.faults g.I.Intervals.keeps l.initial.i l.i;
  direct : All (IsDirect l.home.segments.now) (types_of l.plan.items);
  seen : g.I.Intervals.told l.initial.i
      → HasSeen l.home.shape.now (g.I.Intervals.intervals l.i) (uow_of l.home.shape.now l.home.anchor) l.seen;
  comes : g.I.Intervals.told l.initial.i → (elements : List Pointer) → ComesTo l.home.shape.now l.home.anchor elements
      (g.I.Intervals.intervals l.initial.i) (g.I.Intervals.intervals l.i);
  kept : ArePlaced l.initial.plan.items → l.initial.plan.items ≡ l.plan.items ++ l.taken.items;
  taking : g.I.Intervals.told l.initial.i → AreReserved l.home.segments.now (g.I.Intervals.intervals l.initial.i) l.initial.plan.items
      → IsTaking l.home.shape.now l.home.segments.now (g.I.Intervals.intervals l.initial.i)
      (g.I.Intervals.intervals l.i) l.home.anchor l.initial.plan.items l.plan.items l.taken.items;
}

abbrev pub decreases-loop-planned : goal.decreases-loop-planned
decreases-loop-planned g l = length l.plan.items
