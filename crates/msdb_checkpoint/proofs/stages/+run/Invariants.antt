use Rattle.msdb_checkpoint.specs.Steps.{steps_left}
use Rattle.msdb_checkpoint.proofs.stages.+run.Given as goal

-- the steps that are left
abbrev pub decreases-run : goal.decreases-run
decreases-run g l = steps_left l.body.now l.stage
