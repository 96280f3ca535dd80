use Rattle.std.proofs.Common.{rules}
use Rattle.std.proofs.lemmas.List.Sorted.{IsPartitionPoint-from_clause}
use Rattle.dedb_calls.specs.Anchors.{stands_before}
use Rattle.dedb_calls.proofs.AnchorLemmas.{partitioned}
use Rattle.dedb_calls.proofs.anchors.place_of.Goals as goal

pub returns-clause-place : goal.returns-clause-place
returns-clause-place c up =
    IsPartitionPoint-from_clause (stands_before c.args.dedb c.args.anchor) _ _ c.partition_point.ensures.partitioned
    (partitioned c.args.dedb c.args.anchor c.args.held.now up) (λ a r q k. search rules)
