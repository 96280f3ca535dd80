use Rattle.std.proofs.Common.{◌≡◌, ◌-◌, ◌*◌, true, length}
use Rattle.root_anchor.specs.Stored.{are_storable}
use Rattle.root_anchor.specs.inside.Walking.{met_of, WalksOn, AllStand, IsLook, IsAlongRoots}
use Rattle.root_anchor.proofs.walk.roots.Given as goal

-- the roots so far, and what the rest gives
abbrev pub invariant-loop-alloc : goal.invariant-loop-alloc
invariant-loop-alloc g l = record {
  look : IsLook g.I.Intervals.told g.I.Intervals.intervals g.I.Intervals.number g.I.Intervals.size g.I.Intervals.faults
      g.I.Intervals.keeps l.initial.i l.i;
  walk : WalksOn (g.I.Intervals.number l.initial.i) l.initial.walk l.walk;
  form : are_storable l.segments l.roots ≡ true;
  along : g.I.Intervals.told l.initial.i → IsAlongRoots l.segments (g.I.Intervals.intervals l.initial.i) l.base
      l.fn.first l.roots (met_of l.walk) l.from l.at;
  stand : g.I.Intervals.told l.initial.i → AllStand l.segments (g.I.Intervals.intervals l.initial.i) l.walk;
}

-- elements of the area that weren't met yet
abbrev pub decreases-loop-alloc : goal.decreases-loop-alloc
decreases-loop-alloc g l = g.I.Intervals.number l.initial.i * 4096 - length l.walk.met.items
