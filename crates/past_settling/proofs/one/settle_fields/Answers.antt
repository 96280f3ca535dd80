use Rattle.past_segments.specs.Times.{database_at}
use Rattle.past_settling.proofs.OneLemmas.{fails}
use Rattle.past_settling.proofs.one.settle_fields.Goals as goal

pub returns-in-Err-clause-now : goal.returns-in-Err-clause-now
returns-in-Err-clause-now c defs =
    fails defs c.args.def.now c.args.key.now c.args.fsas.now (database_at c.args.place c.args.past.now)
    (database_at c.args.place c.args.past.now) c.in-Err.fault c.in-Err.ensures
