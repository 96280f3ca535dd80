use Rattle.txn_machine.proofs.EndLemmas.{set_at_end}
use Rattle.txn_machine.proofs.place.Place.again.Goals as goal

pub returns-clause-frames : goal.returns-clause-frames
returns-clause-frames c = λ front last is. set_at_end c.args.self.now.frames front last c.args.frame c.len-last.result
    c.len-last.ensures is
