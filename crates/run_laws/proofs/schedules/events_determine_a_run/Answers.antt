use Rattle.run_laws.proofs.OneValue.{runs_once, fair_runs_once, drains_once}
use Rattle.run_laws.proofs.schedules.events_determine_a_run.Goals as goal

pub returns : goal.returns
returns c = record {
  steps = λ defs scripts m steps steps2 m2 m3 runs runs2 parts.
      runs_once defs scripts m steps steps2 m2 m3 runs runs2 parts;
  fair = λ defs scripts m steps steps2 m2 m3 runs runs2 events fair fair2.
      fair_runs_once defs scripts m steps steps2 m2 m3 runs runs2 events fair fair2;
  drain = λ defs scripts m n rounds rounds2 m2 n2 same d d2 fair fair2.
      drains_once defs scripts m n rounds rounds2 m2 n2 same d d2 fair fair2;
}
