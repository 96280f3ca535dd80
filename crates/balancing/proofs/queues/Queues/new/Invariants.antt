use Rattle.std.proofs.Common.{◌≡◌, [], length, map, replicate}
use Rattle.balancing.proofs.queues.Queues.new.Given as goal

-- so many queues are made, and are empty
abbrev pub invariant-loop : goal.invariant-loop
invariant-loop l = (length l.queues.items ≡ l.counter)
    × (map (λ queue. queue.items) l.queues.items ≡ replicate l.counter [])
