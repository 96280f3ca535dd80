use Rattle.std.proofs.Common.{◌≡◌, ◌+◌, ◌-◌, ◌*◌, ◌++◌, true, List, drop, length}
use Rattle.fp_model.specs.declared.database.Node.{Node}
use Rattle.anchor_elements.specs.Reading.{types_of, pointers_of}
use Rattle.root_anchor.specs.Stored.{rows_have_form}
use Rattle.root_anchor.specs.inside.Stored.{row_has_form}
use Rattle.root_anchor.specs.inside.Walking.{met_of, WalksOn, AllStand, IsLook, IsAlong, IsAmong}
use Rattle.root_anchor.proofs.walk.+walk.Given as goal

-- a child's type has a greater number
abbrev pub decreases-row : goal.decreases-row
decreases-row g l = 2 * (length l.segments.now - l.segment) + 1

abbrev pub decreases-rows : goal.decreases-rows
decreases-rows g l = 2 * (length l.segments.now - l.segment)

-- the row so far, and what the rest of it gives
abbrev pub invariant-row-loop-alloc : goal.invariant-row-loop-alloc
invariant-row-loop-alloc g l = record {
  look : IsLook g.I.Intervals.told g.I.Intervals.intervals g.I.Intervals.number g.I.Intervals.size g.I.Intervals.faults
      g.I.Intervals.keeps l.initial.i l.i;
  walk : WalksOn (g.I.Intervals.number l.initial.i) l.initial.walk l.walk;
  form : row_has_form l.segments l.segment l.row ≡ true;
  along : g.I.Intervals.told l.initial.i → IsAlong l.segments (g.I.Intervals.intervals l.initial.i)
      (met_of l.initial.walk) l.home l.segment l.fn.first l.row (met_of l.walk) l.from l.at;
  stand : g.I.Intervals.told l.initial.i → AllStand l.segments (g.I.Intervals.intervals l.initial.i) l.initial.walk
      → AllStand l.segments (g.I.Intervals.intervals l.initial.i) l.walk;
}

-- elements of the area that weren't met yet
abbrev pub decreases-row-loop-alloc : goal.decreases-row-loop-alloc
decreases-row-loop-alloc g l = g.I.Intervals.number l.initial.i * 4096 - length l.walk.met.items

-- the rows so far, and what the other types give
abbrev pub invariant-rows-loop-first : goal.invariant-rows-loop-first
invariant-rows-loop-first g l = record {
  look : IsLook g.I.Intervals.told g.I.Intervals.intervals g.I.Intervals.number g.I.Intervals.size g.I.Intervals.faults
      g.I.Intervals.keeps l.initial.i l.i;
  walk : WalksOn (g.I.Intervals.number l.initial.i) l.initial.walk l.walk;
  form : (rest : List (List Node)) → rows_have_form l.segments (types_of (drop l.first-index l.firsts)) rest ≡ true
      → rows_have_form l.segments (types_of l.firsts) (l.rows ++ rest) ≡ true;
  among : g.I.Intervals.told l.initial.i → IsAmong l.segments (g.I.Intervals.intervals l.initial.i)
      (met_of l.initial.walk) l.home (types_of l.firsts) (pointers_of l.firsts) l.rows (met_of l.walk)
      (types_of (drop l.first-index l.firsts)) (pointers_of (drop l.first-index l.firsts));
  stand : g.I.Intervals.told l.initial.i → AllStand l.segments (g.I.Intervals.intervals l.initial.i) l.initial.walk
      → AllStand l.segments (g.I.Intervals.intervals l.initial.i) l.walk;
}
