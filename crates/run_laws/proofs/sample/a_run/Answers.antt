use Rattle.run_laws.proofs.SampleRun.{sample_run}
use Rattle.run_laws.proofs.sample.a_run.Goals as goal

pub returns : goal.returns
returns c = sample_run
