use Rattle.txn_lang.proofs.OneMeaning.{one_list, one_fault, apart}
use Rattle.txn_lang.proofs.laws.a_text_has_one_meaning.Goals as goal

pub returns-clause-one : goal.returns-clause-one
returns-clause-one c = one_list

pub returns-clause-apart : goal.returns-clause-apart
returns-clause-apart c = apart

pub returns-clause-fault : goal.returns-clause-fault
returns-clause-fault c = one_fault
