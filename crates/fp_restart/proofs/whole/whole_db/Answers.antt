use Rattle.std.proofs.Common.{◌∙◌}
use Rattle.fp_restart.proofs.NoDedbs.{state_is}
use Rattle.fp_restart.proofs.whole.whole_db.Goals as goal

pub returns-clause-means : goal.returns-clause-means
returns-clause-means g c scripts format entries last none history same =
    state_is c.args.defs.now none scripts format entries last history c.in_ok-msdbs.msdbs c.loop-def.dedbs
    c.loop-def.def-index (c.in_ok-msdbs.ensures ∙ same) (rw c.as_slice-def-items.ensures at c.loop-def.invariant)
