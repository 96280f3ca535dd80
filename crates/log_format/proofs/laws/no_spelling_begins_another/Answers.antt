use Rattle.log_format.proofs.Bodies.{one_entry}
use Rattle.log_format.proofs.laws.no_spelling_begins_another.Goals as goal

pub returns : goal.returns
returns c = one_entry
