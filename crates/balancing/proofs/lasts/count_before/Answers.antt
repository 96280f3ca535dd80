use Rattle.std.proofs.Common.{rules}
use Rattle.std.proofs.lemmas.List.Sorted.{IsPartitionPoint-from_clause}
use Rattle.fp_model.specs.State.{is_below}
use Rattle.key_order.proofs.Ascending.{partitioned}
use Rattle.balancing.proofs.LastLemmas.{ascends_as, place_as}
use Rattle.balancing.proofs.lasts.count_before.Goals as goal

pub returns-clause-place : goal.returns-clause-place
returns-clause-place c up =
    place_as c.args.lterm.now.0 c.args.terminals.now c.partition_point.result c.partition_point.ensures.bound
    (IsPartitionPoint-from_clause (λ b. is_below b.value.lterm.0 c.args.lterm.now.0) _ _
    c.partition_point.ensures.partitioned
    (partitioned (λ b. b.value.lterm.0) c.args.lterm.now.0 c.args.terminals.now
    (ascends_as c.args.terminals.now up)) (λ a r q k. search rules))
