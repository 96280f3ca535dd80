use Rattle.dedb_area.proofs.Marks.{marked}
use Rattle.dedb_area.proofs.marking.a_mark_keeps_the_areas.Goals as goal

pub returns : goal.returns
returns g c = λ way bytes before after stands none is. marked way bytes _ before after stands none is
