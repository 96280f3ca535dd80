use Rattle.schedule_runs.proofs.WayLemmas.{steps_of}
use Rattle.schedule_runs.proofs.ways.a_way_is_a_run.Goals as goal

pub returns : goal.returns
returns c = λ defs rules events m environments left here goes. steps_of goes
