use Rattle.fp_model.proofs.HistoryLemmas.{join}
use Rattle.fp_model.proofs.laws.histories_join.Goals as goal

pub returns : goal.returns
returns c = join
