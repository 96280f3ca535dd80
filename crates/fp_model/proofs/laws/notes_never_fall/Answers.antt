use Rattle.fp_model.proofs.HistoryLemmas.{notes_in_order}
use Rattle.fp_model.proofs.laws.notes_never_fall.Goals as goal

pub returns : goal.returns
returns c = notes_in_order
