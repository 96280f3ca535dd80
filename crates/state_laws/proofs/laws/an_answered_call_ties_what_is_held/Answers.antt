use Rattle.state_laws.proofs.Ties.{answer_tied}
use Rattle.state_laws.proofs.laws.an_answered_call_ties_what_is_held.Goals as goal

pub returns : goal.returns
returns c = λ defs now visible shown own call tied. answer_tied defs now visible shown own call tied
