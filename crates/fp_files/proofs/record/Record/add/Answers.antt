-- one call more
use Rattle.fp_files.proofs.CallLemmas.{longer_by}
use Rattle.fp_files.proofs.record.Record.add.Goals as goal

pub returns-clause-kept : goal.returns-clause-kept
returns-clause-kept c = longer_by _ _ _ c.note.ensures
