use Rattle.std.proofs.Common.{rules}
use Rattle.std.specs.Prelude.{None, nat_le}
use Rattle.std.proofs.lemmas.List.Sorted.{IsPartitionPoint-from_clause}
use Rattle.past_segments.proofs.Values.{partitioned, value_by}
use Rattle.past_segments.specs.declared.slot.Version.{Version}
use Rattle.past_segments.proofs.slot.count_up_to.Goals as goal

pub returns-clause-value : goal.returns-clause-value
returns-clause-value c up =
    value_by c.args.place None c.args.versions.now c.partition_point.result
    (IsPartitionPoint-from_clause (λ (v : Version). nat_le v.from c.args.place) _ _
    c.partition_point.ensures.partitioned
    (partitioned c.args.place c.args.versions.now up) (λ a r q k. search rules))
