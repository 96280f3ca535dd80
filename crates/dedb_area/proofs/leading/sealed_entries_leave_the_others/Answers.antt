use Rattle.dedb_area.proofs.LeadingLemmas.{sealed_for}
use Rattle.dedb_area.proofs.leading.sealed_entries_leave_the_others.Goals as goal

pub returns : goal.returns
returns g c = λ way bytes states areas n were few. sealed_for way bytes states _ areas n were few
