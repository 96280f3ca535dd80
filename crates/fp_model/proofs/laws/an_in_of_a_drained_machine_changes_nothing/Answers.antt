use Rattle.fp_model.proofs.RunLemmas.{drained_in}
use Rattle.fp_model.proofs.laws.an_in_of_a_drained_machine_changes_nothing.Goals as goal

pub returns : goal.returns
returns c = drained_in
