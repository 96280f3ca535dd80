use Rattle.std.proofs.Common.{◌≡◌, take, drop}
use Rattle.std.specs.List.{AllZip}
use Rattle.ci_space.specs.Calls.{GoesOn}
use Rattle.area_states.specs.States.{IsReadAs}
use Rattle.area_reading.specs.inside.Damage.{AreEndsOf}
use Rattle.area_reading.proofs.lists.with_lists.Given as goal

-- the roots so far have their lists
abbrev pub invariant-loop-root : goal.invariant-loop-root
invariant-loop-root g l = record {
  left : drop l.number l.fn.kept ≡ l.root-iterator.rest.items;
  goes_on : GoesOn g.I.Intervals.told g.I.Intervals.size g.I.Intervals.faults g.I.Intervals.keeps l.initial.i l.i;
  same : g.I.Intervals.told l.initial.i → g.I.Intervals.intervals l.i ≡ g.I.Intervals.intervals l.initial.i;
  count : g.I.Intervals.number l.i ≡ g.I.Intervals.number l.initial.i;
  read : g.I.Intervals.told l.initial.i → AreEndsOf (g.I.Intervals.intervals l.initial.i) l.ends
      → AllZip (IsReadAs l.place (g.I.Intervals.intervals l.initial.i)) (take l.number l.fn.kept) l.roots;
}
