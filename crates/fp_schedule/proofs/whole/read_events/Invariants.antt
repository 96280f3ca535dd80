use Rattle.std.proofs.Common.{◌≡◌, ◌+◌, ◌≤◌, ◌++◌, length}
use Rattle.std.specs.Prelude.{filter_map}
use Rattle.fp_schedule.specs.Schedule.{event_of, first_fault, tokens_of}
use Rattle.fp_schedule.proofs.whole.read_events.Given as goal

abbrev pub invariant-loop-token : goal.invariant-loop-token
invariant-loop-token l = record {
  few : length l.events ≤ 1000000;
  fault : first_fault l.defs 1 (tokens_of l.bytes) ≡ first_fault l.defs (length l.events + 1) (tokens_of l.left);
  events : filter_map (event_of l.defs) (tokens_of l.bytes) ≡ l.events ++ filter_map (event_of l.defs)
      (tokens_of l.left);
}

abbrev pub decreases-loop-token : goal.decreases-loop-token
decreases-loop-token l = length l.left
