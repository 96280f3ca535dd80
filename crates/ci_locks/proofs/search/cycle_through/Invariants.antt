use Rattle.std.proofs.Common.{◌≡◌, ◌≤◌, ◌+◌, ◌*◌, length, take}
use Rattle.ci_locks.specs.inside.Graph.{leads}
use Rattle.ci_locks.specs.Sets.{has}
use Rattle.ci_locks.proofs.Walks.{AreNoLater, Searched, count_unmet}
use Rattle.ci_locks.proofs.search.cycle_through.Given as goal

abbrev pub invariant-loop-count : goal.invariant-loop-count
invariant-loop-count l = record {
  searched : Searched (leads l.regions l.asker l.ahead.0) l.asker (length l.regions) (has l.met.0)
      (take l.count l.path);
  first : AreNoLater (leads l.regions l.asker l.ahead.0) l.asker (take l.count l.path);
  long : l.count ≤ length l.regions;
  room : length l.path ≡ 64;
}

-- twice those not met, and the way
abbrev pub decreases-loop-count : goal.decreases-loop-count
decreases-loop-count l = 2 * count_unmet (has l.met.0) (length l.regions) + l.count
