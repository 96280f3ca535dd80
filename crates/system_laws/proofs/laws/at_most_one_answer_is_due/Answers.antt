use Rattle.system_laws.proofs.TableLemmas.{one_due}
use Rattle.system_laws.proofs.laws.at_most_one_answer_is_due.Goals as goal

pub returns : goal.returns
returns c = λ g a b p q. one_due g a b p q
