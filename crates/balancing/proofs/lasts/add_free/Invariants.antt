use Rattle.std.proofs.Common.{◌-◌, ◌≤◌, max, length}
use Rattle.balancing.proofs.lasts.add_free.Given as goal

-- no handle is lost, and there are no more than were asked for
abbrev pub invariant-loop-free : goal.invariant-loop-free
invariant-loop-free l = record {
  no_fewer : length l.fn.free.items ≤ length l.free.items;
  no_more : length l.free.items ≤ max l.fn.n (length l.fn.free.items);
}

-- those that are missing
abbrev pub decreases-loop-free : goal.decreases-loop-free
decreases-loop-free l = l.fn.n - length l.free.items
