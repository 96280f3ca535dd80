use Rattle.std.proofs.Common.{rules}
use Rattle.std.proofs.lemmas.List.Sorted.{IsPartitionPoint-from_clause}
use Rattle.fp_model.specs.Order.{node_key, root_key}
use Rattle.fp_model.specs.State.{is_below}
use Rattle.key_order.proofs.Ascending.{partitioned}
use Rattle.dli_tree.proofs.place.twins_below.Goals as goal

pub returns-clause-place : goal.returns-clause-place
returns-clause-place c up =
    IsPartitionPoint-from_clause (λ x. is_below (node_key c.args.segments.now c.args.segment x) c.args.key.now) _ _
    c.partition_point.ensures.partitioned
    (partitioned (node_key c.args.segments.now c.args.segment) c.args.key.now c.args.twins.now up)
    (λ a r q k. search rules)
