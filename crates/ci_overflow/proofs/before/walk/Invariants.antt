use Rattle.std.proofs.Common.{◌≡◌, ◌≢◌, ◌⊎◌, ◌+◌, ◌-◌, ◌<◌, ◌≤◌, length}
use Rattle.ci_space.specs.Calls.{GoesOn}
use Rattle.ci_space.specs.Interval.{IsInterval, kind_of}
use Rattle.ci_overflow.specs.Lists.{bytes_at, link_of}
use Rattle.ci_overflow.specs.Moves.{IsInList}
use Rattle.ci_overflow.proofs.Circles.{IsWalked}
use Rattle.ci_overflow.proofs.FaultLemmas.{IsBuilt}
use Rattle.ci_overflow.proofs.before.walk.Given as goal

abbrev pub invariant-loop-next : goal.invariant-loop-next
invariant-loop-next g l = record {
  goes_on : GoesOn g.I.Intervals.told g.I.Intervals.size g.I.Intervals.faults g.I.Intervals.keeps l.fn.i l.i;
  number : g.I.Intervals.number l.i ≡ g.I.Intervals.number l.fn.i;
  same : g.I.Intervals.told l.fn.i → g.I.Intervals.intervals l.i ≡ g.I.Intervals.intervals l.fn.i;
  in_list : g.I.Intervals.told l.fn.i → IsInList l.shape (g.I.Intervals.intervals l.fn.i) l.uow l.fn.start
      → IsInList l.shape (g.I.Intervals.intervals l.fn.i) l.uow l.before;
  below : l.before.ci < g.I.Intervals.number l.fn.i;
  interval : IsInterval l.before.interval;
  kind : (kind_of l.before.interval ≡ 2) ⊎ (kind_of l.before.interval ≡ 5);
  size : length l.before.interval ≡ g.I.Intervals.size l.fn.i;
  next : l.next ≡ link_of l.before.interval;
  apart : l.before.ci ≢ l.ci;
  turns : l.turns ≤ l.initial.turns;
  walked : g.I.Intervals.told l.fn.i → IsInList l.shape (g.I.Intervals.intervals l.fn.i) l.uow l.fn.start
      → l.uow < l.shape.uows
      → IsWalked l.shape (g.I.Intervals.intervals l.fn.i) (l.uow + 1) l.before.ci l.next (l.initial.turns - l.turns);
  built : g.I.Intervals.told l.fn.i → IsInList l.shape (g.I.Intervals.intervals l.fn.i) l.uow l.fn.start
      → IsBuilt (g.I.Intervals.intervals l.fn.i) (link_of (bytes_at (g.I.Intervals.intervals l.fn.i) l.fn.start.ci)) l.ci
      l.next;
}

abbrev pub decreases-loop-next : goal.decreases-loop-next
decreases-loop-next g l = l.turns
