use Rattle.fp_model.proofs.HistoryLemmas.{front}
use Rattle.fp_model.proofs.laws.a_front_is_a_history.Goals as goal

pub returns : goal.returns
returns c = front
