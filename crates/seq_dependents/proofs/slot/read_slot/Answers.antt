use Rattle.seq_dependents.proofs.FaultLemmas.{serial_missing}
use Rattle.seq_dependents.proofs.slot.read_slot.Goals as goal
use Rattle.plain_laws.proofs.Options.{none_isnt_some}

pub returns-in-Ok-None-clause-damaged : goal.returns-in-Ok-None-clause-damaged
returns-in-Ok-None-clause-damaged g c = λ t k n e.
    serial_missing c.args.part.now _ c.args.serial c.interval_of-ci.result n _ c.interval_of-ci.ensures.number
    (c.in_ok-interval.ensures.bytes t) k (λ h. none_isnt_some _ c.in-Ok-None.field-0-is (c.in-Ok-None.ensures.some.1 h)) e
