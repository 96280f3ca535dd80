use Rattle.sealed_runs.proofs.SoundLogs.{sent_lines}
use Rattle.sealed_runs.proofs.logs.what_a_run_sends_is_sealed.Goals as goal

pub returns : goal.returns
returns c = λ defs scripts format earlier m times behind. sent_lines defs scripts format earlier m behind times
