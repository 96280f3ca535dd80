use Rattle.log_format.proofs.EntryLaws.{notes_law}
use Rattle.log_format.proofs.laws.counted_numbers_are_lawful.Goals as goal

pub returns : goal.returns
returns c = notes_law
