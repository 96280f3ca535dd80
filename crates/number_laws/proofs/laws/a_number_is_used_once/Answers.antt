use Rattle.number_laws.proofs.Used.{used_once}
use Rattle.number_laws.proofs.laws.a_number_is_used_once.Goals as goal

pub returns : goal.returns
returns c = λ defs scripts format entries last history. used_once defs scripts format entries last history
