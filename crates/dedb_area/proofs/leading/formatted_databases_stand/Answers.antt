use Rattle.dedb_area.proofs.LeadingLemmas.{started_for}
use Rattle.dedb_area.proofs.leading.formatted_databases_stand.Goals as goal

pub returns : goal.returns
returns g c = λ defs areas count good formatted opened. started_for defs areas count _ good formatted opened
