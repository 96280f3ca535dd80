use Rattle.fp_core.proofs.taking.begin.Goals as goal

pub returns : goal.returns
returns c from = c.in_ok-program.ensures from 0 c.in_ok-refusal.refusal c.in_ok-refusal.ensures
