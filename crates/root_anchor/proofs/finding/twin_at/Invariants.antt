use Rattle.anchor_elements.specs.Elements.{Pointer, Segment}
use Rattle.root_anchor.specs.inside.Finding.{IsTwinAt}
use Rattle.root_anchor.specs.inside.Walking.{IsLook}
use Rattle.root_anchor.proofs.finding.twin_at.Given as goal

-- the twin that is left to find from here on is the one from the first on
abbrev pub invariant-loop-left : goal.invariant-loop-left
invariant-loop-left g l = record {
  look : IsLook g.I.Intervals.told g.I.Intervals.intervals g.I.Intervals.number g.I.Intervals.size g.I.Intervals.faults
      g.I.Intervals.keeps l.initial.i l.i;
  finds : g.I.Intervals.told l.initial.i → (place : Pointer) (t : Segment)
      → IsTwinAt l.segments (g.I.Intervals.intervals l.initial.i) l.segment l.at l.left place t
      → IsTwinAt l.segments (g.I.Intervals.intervals l.initial.i) l.segment l.initial.at l.initial.left place t;
  leads : g.I.Intervals.told l.initial.i → (place : Pointer) (t : Segment)
      → IsTwinAt l.segments (g.I.Intervals.intervals l.initial.i) l.segment l.initial.at l.initial.left place t
      → IsTwinAt l.segments (g.I.Intervals.intervals l.initial.i) l.segment l.at l.left place t;
}

abbrev pub decreases-loop-left : goal.decreases-loop-left
decreases-loop-left g l = l.left
