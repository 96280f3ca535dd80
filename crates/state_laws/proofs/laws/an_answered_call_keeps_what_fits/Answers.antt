use Rattle.state_laws.proofs.Answering.{answer_keeps}
use Rattle.state_laws.proofs.laws.an_answered_call_keeps_what_fits.Goals as goal

pub returns : goal.returns
returns c = λ defs now visible shown own call are good f tied fit.
    answer_keeps defs now visible shown own call are good f tied fit
