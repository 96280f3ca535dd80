use Rattle.std.proofs.Common.{rules, get_or, arith}
use Rattle.std.specs.Prelude.{nat_le}
use Rattle.std.proofs.lemmas.List.Sorted.{IsPartitionPoint-from_clause}
use Rattle.dli_tree.specs.Paths.{step_of}
use Rattle.dli_tree.proofs.Roots.{newest_partitioned, not_older}
use Rattle.dli_tree.proofs.first.not_behind.Goals as goal
use Rattle.plain_laws.proofs.Numbers.{le_is}

pub returns-clause-left : goal.returns-clause-left
returns-clause-left c newest aim rest e i d lt =
    let serial = c.args.first.now.serial in
    let place =
    IsPartitionPoint-from_clause (λ item. nat_le serial item.serial) _ _ c.partition_point.ensures.partitioned
    (newest_partitioned serial 0 18446744073709551616 c.args.seqs.now newest) (λ a r q k. search rules) in
    not_older aim (step_of c.args.first.now) rest c.args.segment (get_or c.args.seqs.now i d).serial e (omega arith)
    (le_is serial (get_or c.args.seqs.now i d).serial (place.0 i d (omega arith) lt))
