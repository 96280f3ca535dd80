use Rattle.std.proofs.Common.{rules, take}
use Rattle.std.proofs.lemmas.List.Sorted.{IsPartitionPoint-from_clause}
use Rattle.fp_model.specs.State.{is_below}
use Rattle.msdb_store.specs.Slots.{slot_of}
use Rattle.key_order.proofs.Ascending.{partitioned}
use Rattle.msdb_store.proofs.Slots.{ascends_as, place_as}
use Rattle.msdb_store.proofs.segments.count_below.Goals as goal

pub returns-clause-place : goal.returns-clause-place
returns-clause-place c up =
    place_as c.args.slots.now c.args.count c.args.key.now c.args.numbers.now c.partition_point.result
    c.partition_point.ensures.bound
    (IsPartitionPoint-from_clause (λ n. is_below (take c.args.count (slot_of c.args.slots.now n)) c.args.key.now) _ _
    c.partition_point.ensures.partitioned
    (partitioned (λ n. take c.args.count (slot_of c.args.slots.now n)) c.args.key.now c.args.numbers.now
    (ascends_as c.args.slots.now c.args.count c.args.numbers.now up)) (λ a r q k. search rules))
