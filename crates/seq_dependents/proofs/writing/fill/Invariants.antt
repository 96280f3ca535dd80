use Rattle.std.proofs.Common.{◌≡◌}
use Rattle.ci_space.specs.Calls.{GoesOn}
use Rattle.seq_dependents.specs.Puts.{Fills}
use Rattle.seq_dependents.proofs.writing.fill.Given as goal

abbrev pub invariant-loop-at : goal.invariant-loop-at
invariant-loop-at g l = record {
  goes_on : GoesOn g.I.Intervals.told g.I.Intervals.size g.I.Intervals.faults g.I.Intervals.keeps l.initial.i l.i;
  number : g.I.Intervals.number l.i ≡ g.I.Intervals.number l.initial.i;
  filled : g.I.Intervals.told l.initial.i → Fills l.part (g.I.Intervals.intervals l.initial.i)
      (g.I.Intervals.intervals l.i) l.first l.previous l.segments l.at;
}
