use Rattle.fp_model.proofs.RunLemmas.{last_machine, runs_joined}
use Rattle.fp_model.proofs.laws.steps_determine_the_last_machine.Goals as goal

pub returns : goal.returns
returns c = record { last = last_machine; joined = runs_joined }
