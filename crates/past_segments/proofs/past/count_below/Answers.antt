use Rattle.std.proofs.Common.{rules}
use Rattle.std.proofs.lemmas.List.Sorted.{IsPartitionPoint-from_clause}
use Rattle.fp_model.specs.State.{is_below}
use Rattle.past_segments.specs.declared.slot.Slot.{Slot}
use Rattle.key_order.proofs.Ascending.{partitioned}
use Rattle.past_segments.proofs.past.count_below.Goals as goal

pub returns-clause-place : goal.returns-clause-place
returns-clause-place c up =
    IsPartitionPoint-from_clause (λ (slot : Slot). is_below slot.key c.args.key.now) _ _
    c.partition_point.ensures.partitioned
    (partitioned (λ (slot : Slot). slot.key) c.args.key.now c.args.slots.now up) (λ a r q k. search rules)
