use Rattle.dedb_calls.proofs.ArgumentLemmas.{indexed}
use Rattle.dedb_calls.proofs.calls.database_of.Goals as goal

pub returns-clause-there : goal.returns-clause-there
returns-clause-there c =
    indexed c.args.defs.now.dedbs c.as_slice.result.now c.index-as_slice-from.result c.args.number c.from.result
    c.as_slice.ensures c.from.ensures c.index-as_slice-from.is c.requires
