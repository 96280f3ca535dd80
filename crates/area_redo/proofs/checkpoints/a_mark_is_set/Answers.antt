use Rattle.area_redo.proofs.Opening.{begun}
use Rattle.area_redo.proofs.checkpoints.a_mark_is_set.Goals as goal

pub returns : goal.returns
returns g c = record { stands = λ layout way owed bytes stands none. begun layout way owed bytes _ stands none }
