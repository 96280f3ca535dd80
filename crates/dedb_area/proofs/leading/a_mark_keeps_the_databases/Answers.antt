use Rattle.dedb_area.proofs.LeadingLemmas.{marked_for}
use Rattle.dedb_area.proofs.leading.a_mark_keeps_the_databases.Goals as goal

pub returns : goal.returns
returns g c = λ way bytes states before after were none is.
    marked_for way bytes states _ before after were none is
