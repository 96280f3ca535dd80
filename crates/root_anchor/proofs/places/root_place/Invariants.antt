use Rattle.std.proofs.Common.{ℕ, ◌+◌, ◌-◌, ◌≤◌}
use Rattle.anchor_elements.specs.Elements.{Pointer, Segment}
use Rattle.root_anchor.specs.Roots.{IsRootAt, AreSoMany, TwinsFail}
use Rattle.root_anchor.specs.inside.Walking.{IsLook}
use Rattle.root_anchor.proofs.places.root_place.Given as goal

-- what is found from here on is found from the first root on
abbrev pub invariant-loop-alloc : goal.invariant-loop-alloc
invariant-loop-alloc g l = record {
  look : IsLook g.I.Intervals.told g.I.Intervals.intervals g.I.Intervals.number g.I.Intervals.size g.I.Intervals.faults
      g.I.Intervals.keeps l.initial.i l.i;
  within : l.left ≤ l.number;
  reads : g.I.Intervals.told l.initial.i → (place : Pointer) (t : Segment)
      → IsRootAt l.segments (g.I.Intervals.intervals l.initial.i) l.at l.left place t
      → IsRootAt l.segments (g.I.Intervals.intervals l.initial.i) l.initial.at l.number place t;
  many : g.I.Intervals.told l.initial.i → (k : ℕ) → AreSoMany l.segments (g.I.Intervals.intervals l.initial.i) l.at k
      → AreSoMany l.segments (g.I.Intervals.intervals l.initial.i) l.initial.at (l.number - l.left + k);
  fails : g.I.Intervals.told l.initial.i → (ci : ℕ)
      → TwinsFail l.segments (g.I.Intervals.intervals l.initial.i) l.from l.at ci
      → TwinsFail l.segments (g.I.Intervals.intervals l.initial.i) l.initial.from l.initial.at ci;
}

abbrev pub decreases-loop-alloc : goal.decreases-loop-alloc
decreases-loop-alloc g l = l.left
