use Rattle.log_format.proofs.EntryLaws.{entry_law}
use Rattle.log_format.proofs.laws.entries_are_lawful.Goals as goal

pub returns : goal.returns
returns c = entry_law
