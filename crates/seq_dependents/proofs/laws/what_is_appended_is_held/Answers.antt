use Rattle.seq_dependents.proofs.LawLemmas.{appended_held}
use Rattle.seq_dependents.proofs.laws.what_is_appended_is_held.Goals as goal

pub returns : goal.returns
returns c = appended_held
