use Rattle.fp_model.proofs.ProgramLemmas.{calls_below_cost}
use Rattle.fp_model.proofs.call_laws.calls_are_fewer_than_the_cost.Goals as goal

pub returns : goal.returns
returns c = calls_below_cost
