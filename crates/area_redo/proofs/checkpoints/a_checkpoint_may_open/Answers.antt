use Rattle.area_redo.proofs.Opening.{may_open}
use Rattle.area_redo.proofs.checkpoints.a_checkpoint_may_open.Goals as goal

pub returns : goal.returns
returns g c = record {
  opening = λ layout way owed bytes stands none law durable. may_open layout way owed bytes _ stands none law durable;
}
