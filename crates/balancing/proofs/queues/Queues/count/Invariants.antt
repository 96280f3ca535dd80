use Rattle.std.proofs.Common.{◌≡◌, ◌≤◌, ◌*◌, ◌^◌, length, take, sum_by}
use Rattle.balancing.proofs.queues.Queues.count.Given as goal

-- the queues so far are counted
abbrev pub invariant-loop-queue : goal.invariant-loop-queue
invariant-loop-queue l = record {
  so_far : l.count ≡ sum_by (λ queue. length queue.items) (take l.queue-index l.queue-items);
  small : l.count ≤ l.queue-index * 2 ^ 64;
}
