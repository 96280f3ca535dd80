use Rattle.std.proofs.Common.{refl}
use Rattle.sealed_runs.proofs.SoundLogs.{sound_run}
use Rattle.sealed_runs.proofs.logs.what_a_run_seals_is_sound.Goals as goal

pub returns : goal.returns
returns c = λ defs scripts front old earlier m times before image gate are none sound behind all log.
    sound_run defs scripts front.format earlier m behind are none front refl old sound times before image gate all log
