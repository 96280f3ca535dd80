use Rattle.std.proofs.Common.{◌≡◌}
use Rattle.std.specs.Ordering.{nat_cmp}
use Rattle.std.specs.BTreeMap.{get, btree_map_len}
use Rattle.ci_space.specs.Calls.{GoesOn}
use Rattle.held_intervals.specs.Holding.{overlaid, Fit}
use Rattle.held_intervals.proofs.settling.put_all.Given as goal

-- the changes that are left, over the area so far, are all changes over the area as it was
abbrev pub invariant-loop-ci : goal.invariant-loop-ci
invariant-loop-ci g l = record {
  number : g.I.Intervals.number l.i ≡ g.I.Intervals.number l.initial.i;
  goes_on : GoesOn g.I.Intervals.told g.I.Intervals.size g.I.Intervals.faults g.I.Intervals.keeps l.initial.i l.i;
  fit : Fit (g.I.Intervals.number l.i) (g.I.Intervals.size l.i) (get nat_cmp l.left);
  same : g.I.Intervals.told l.initial.i
      → overlaid (g.I.Intervals.number l.i) (get nat_cmp l.left) (g.I.Intervals.intervals l.i)
      ≡ overlaid (g.I.Intervals.number l.initial.i) (get nat_cmp l.initial.left) (g.I.Intervals.intervals l.initial.i);
}

abbrev pub decreases-loop-ci : goal.decreases-loop-ci
decreases-loop-ci g l = btree_map_len l.left
