use Rattle.std.proofs.Common.{refl, sym}
use Rattle.dedb_calls.proofs.TargetLemmas.{dedb_looks, named_dedb, named_msdb}
use Rattle.past_calls.specs.Targets.{FitsWork}
use Rattle.past_calls.proofs.answering.looks.Goals as goal

pub looks_msdb-requires-clause-call : goal.looks_msdb-requires-clause-call
looks_msdb-requires-clause-call c =
    named_msdb c.args.defs.now c.args.call.now (λ t. FitsWork t c.args.work.now c.args.call.now) (λ p. p)
    c.requires.call c.database_of-number.result c.from-at.result c.len-msdb_count.result c.database_of-number.ensures
    c.from-at.ensures c.len-msdb_count.ensures c.if-at-msdb_count.true

pub returns-else-at-msdb_count : goal.returns-else-at-msdb_count
returns-else-at-msdb_count c =
    let it = (named_dedb c.args.defs.now c.args.call.now (λ t. FitsWork t c.args.work.now c.args.call.now) (λ p. p)
    c.requires.call c.database_of-number.result c.from-at.result c.len-msdb_count.result _ c.database_of-number.ensures
    c.from-at.ensures c.len-msdb_count.ensures c.if-at-msdb_count.false refl) in
    sym (dedb_looks c.args.defs.now c.args.call.now _ it c.args.work.now.own)
