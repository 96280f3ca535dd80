use Rattle.std.proofs.Common.{◌≡◌, ℕ, length}
use Rattle.ci_locks.specs.Regions.{region_at}
use Rattle.ci_locks.proofs.Sounds.{IsIdle}
use Rattle.ci_locks.proofs.state.State.new.Given as goal

abbrev pub invariant-loop : goal.invariant-loop
invariant-loop l = record {
  long : length l.made.items ≡ l.counter;
  idle : (k : ℕ) → IsIdle (region_at l.made.items k);
}
