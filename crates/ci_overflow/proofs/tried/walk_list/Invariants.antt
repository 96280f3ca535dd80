use Rattle.std.proofs.Common.{◌≡◌, ◌+◌, ◌-◌, ◌<◌, ◌≤◌}
use Rattle.ci_space.specs.Calls.{GoesOn}
use Rattle.ci_overflow.specs.Places.{first_base}
use Rattle.ci_overflow.specs.Lists.{bytes_at, link_of}
use Rattle.ci_overflow.specs.inside.Rooms.{IsOnChain}
use Rattle.ci_overflow.specs.Known.{IsKnown}
use Rattle.ci_overflow.proofs.Circles.{IsWalked}
use Rattle.ci_overflow.proofs.Knowns.{HasPassed}
use Rattle.ci_overflow.proofs.tried.walk_list.Given as goal

abbrev pub invariant-loop-ci : goal.invariant-loop-ci
invariant-loop-ci g l = record {
  goes_on : GoesOn g.I.Intervals.told g.I.Intervals.size g.I.Intervals.faults g.I.Intervals.keeps l.initial.i l.i;
  number : g.I.Intervals.number l.i ≡ g.I.Intervals.number l.initial.i;
  same : g.I.Intervals.told l.initial.i → g.I.Intervals.intervals l.i ≡ g.I.Intervals.intervals l.initial.i;
  turns : l.turns ≤ l.initial.turns;
  walked : g.I.Intervals.told l.initial.i → l.uow < l.shape.uows → l.base ≡ first_base l.shape l.uow
      → l.first ≡ link_of (bytes_at (g.I.Intervals.intervals l.initial.i) l.base)
      → IsKnown l.shape (g.I.Intervals.intervals l.initial.i) l.uow l.length l.known
      → IsWalked l.shape (g.I.Intervals.intervals l.initial.i) (l.uow + 1) l.from l.ci (l.initial.turns - l.turns);
  on_chain : g.I.Intervals.told l.initial.i
      → IsKnown l.shape (g.I.Intervals.intervals l.initial.i) l.uow l.length l.known
      → IsOnChain (g.I.Intervals.intervals l.initial.i) l.length l.first l.ci;
  passed : g.I.Intervals.told l.initial.i
      → IsKnown l.shape (g.I.Intervals.intervals l.initial.i) l.uow l.length l.known
      → HasPassed l.shape (g.I.Intervals.intervals l.initial.i) (l.uow + 1) l.length l.base l.first l.from l.ci;
}

abbrev pub decreases-loop-ci : goal.decreases-loop-ci
decreases-loop-ci g l = l.turns
