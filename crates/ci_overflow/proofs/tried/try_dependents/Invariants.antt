use Rattle.std.proofs.Common.{◌≡◌, ◌≤◌}
use Rattle.ci_space.specs.Calls.{GoesOn}
use Rattle.ci_overflow.specs.Places.{first_dependent}
use Rattle.ci_overflow.specs.Rooms.{AreFull, numbers_from}
use Rattle.ci_overflow.specs.Known.{IsKnown}
use Rattle.ci_overflow.proofs.tried.try_dependents.Given as goal

abbrev pub invariant-loop-number : goal.invariant-loop-number
invariant-loop-number g l = record {
  goes_on : GoesOn g.I.Intervals.told g.I.Intervals.size g.I.Intervals.faults g.I.Intervals.keeps l.initial.i l.i;
  number : g.I.Intervals.number l.i ≡ g.I.Intervals.number l.initial.i;
  known : l.known ≡ l.initial.known;
  same : g.I.Intervals.told l.initial.i → g.I.Intervals.intervals l.i ≡ g.I.Intervals.intervals l.initial.i;
  within : g.I.Intervals.told l.initial.i
      → IsKnown l.shape (g.I.Intervals.intervals l.initial.i) l.uow l.length l.initial.known
      → l.number ≤ l.shape.overflow;
  full : g.I.Intervals.told l.initial.i
      → IsKnown l.shape (g.I.Intervals.intervals l.initial.i) l.uow l.length l.initial.known
      → AreFull (g.I.Intervals.intervals l.initial.i) l.length (numbers_from (first_dependent l.shape l.uow) l.number);
}
