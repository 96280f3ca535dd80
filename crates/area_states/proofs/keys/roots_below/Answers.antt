use Rattle.std.proofs.Common.{rules}
use Rattle.std.proofs.lemmas.List.Sorted.{IsPartitionPoint-from_clause}
use Rattle.fp_model.specs.Order.{root_key}
use Rattle.fp_model.specs.State.{is_below}
use Rattle.key_order.proofs.Ascending.{partitioned}
use Rattle.area_states.proofs.keys.roots_below.Goals as goal

pub returns-clause-place : goal.returns-clause-place
returns-clause-place c up =
    IsPartitionPoint-from_clause (λ x. is_below (root_key c.args.segments.now x) c.args.key.now) _ _
    c.partition_point.ensures.partitioned
    (partitioned (root_key c.args.segments.now) c.args.key.now c.args.roots.now up) (λ a r q k. search rules)
