use Rattle.std.proofs.Common.{◌≡◌, ℕ, [], take}
use Rattle.ci_space.specs.Calls.{GoesOn}
use Rattle.root_anchor.specs.Faults.{ComesTo}
use Rattle.root_anchor.specs.inside.Standing.{places_of}
use Rattle.root_anchor.specs.inside.Rebuilding.{Exchanges, AreGivable}
use Rattle.root_anchor.proofs.storing.give_back_all.Given as goal

-- so many of the elements are given back
abbrev pub invariant-loop-element : goal.invariant-loop-element
invariant-loop-element g l = record {
  number : g.I.Intervals.number l.i ≡ g.I.Intervals.number l.initial.i;
  goes_on : GoesOn g.I.Intervals.told g.I.Intervals.size g.I.Intervals.faults g.I.Intervals.keeps l.initial.i l.i;
  given : g.I.Intervals.told l.initial.i → AreGivable (g.I.Intervals.intervals l.initial.i) (places_of l.elements)
      → Exchanges l.shape (g.I.Intervals.intervals l.initial.i) (g.I.Intervals.intervals l.i)
      (places_of (take l.element-index l.elements)) [];
  comes : g.I.Intervals.told l.initial.i → (anchor : ℕ) → ComesTo l.shape anchor (places_of l.elements)
      (g.I.Intervals.intervals l.initial.i) (g.I.Intervals.intervals l.i);
}
