use Rattle.sealed_runs.proofs.SoundLogs.{left_further}
use Rattle.sealed_runs.proofs.logs.what_a_step_leaves_is_sound.Goals as goal

pub returns : goal.returns
returns c = λ defs scripts origin old earlier m most text image are none sound behind all has.
    left_further defs scripts origin old earlier m most text image are none sound behind all has
