use Rattle.state_laws.proofs.Showing.{answer_fits}
use Rattle.state_laws.proofs.laws.an_answer_fits_its_target.Goals as goal

pub returns : goal.returns
returns c = λ defs now visible own call are good good2 f. answer_fits defs now visible own call are good good2 f
