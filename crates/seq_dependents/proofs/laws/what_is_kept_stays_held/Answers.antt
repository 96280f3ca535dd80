use Rattle.seq_dependents.proofs.LawLemmas.{kept_held}
use Rattle.seq_dependents.proofs.laws.what_is_kept_stays_held.Goals as goal

pub returns : goal.returns
returns c = kept_held
