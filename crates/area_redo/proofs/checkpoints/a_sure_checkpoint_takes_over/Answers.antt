use Rattle.area_redo.proofs.Opening.{opened}
use Rattle.area_redo.proofs.checkpoints.a_sure_checkpoint_takes_over.Goals as goal

pub returns : goal.returns
returns g c = record { stands = λ layout way owed bytes stands opening. opened layout way owed bytes _ stands opening }
