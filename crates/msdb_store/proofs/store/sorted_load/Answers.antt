use Rattle.std.proofs.Common.{rules, ◌≡◌}
use Rattle.fp_model.specs.State.{key_length}
use Rattle.msdb_store.proofs.Sorting.{sorted_by}
use Rattle.msdb_store.proofs.store.sorted_load.Goals as goal

pub returns-clause-sorted : goal.returns-clause-sorted
returns-clause-sorted c =
    let count : c.key_length.result ≡ key_length c.args.def.now.fields = search rules in
    sorted_by c.key_length.result (key_length c.args.def.now.fields) _ count c.in_ok-sort_by.ensures.sorted
    (λ a r q k. search rules)
