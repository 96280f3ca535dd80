use Rattle.root_anchor.proofs.NewestLemmas.{newest_chain, newest_others, newest_formed}
use Rattle.root_anchor.proofs.laws.a_newest_serial_that_is_set_is_there.Goals as goal

pub returns-clause-roots : goal.returns-clause-roots
returns-clause-roots c = λ shape types old new anchor number serial roots elements it chain.
    newest_chain shape types old new anchor number serial it roots elements chain

pub returns-clause-others : goal.returns-clause-others
returns-clause-others c = λ shape types old new anchor number serial it formed below.
    newest_others shape types old new anchor number serial it formed below

pub returns-clause-formed : goal.returns-clause-formed
returns-clause-formed c = λ shape types old new anchor number serial it formed below.
    newest_formed shape types old new anchor number serial it formed below
