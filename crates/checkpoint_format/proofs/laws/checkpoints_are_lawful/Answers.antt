use Rattle.checkpoint_format.proofs.CheckpointLaws.{rest_again, rest_takes}
use Rattle.checkpoint_format.proofs.laws.checkpoints_are_lawful.Goals as goal

pub returns-clause-takes : goal.returns-clause-takes
returns-clause-takes c = rest_takes

pub returns-clause-again : goal.returns-clause-again
returns-clause-again c = rest_again
