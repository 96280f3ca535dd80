use Rattle.run_laws.proofs.OneValue.{runs_found, drains_found}
use Rattle.run_laws.proofs.schedules.events_and_a_search_determine_a_run.Goals as goal

pub returns : goal.returns
returns c = record {
  run = λ defs scripts search m steps steps2 m2 m3 runs runs2 parts names names2.
      runs_found defs scripts search m steps steps2 m2 m3 runs runs2 parts names names2;
  drain = λ defs scripts search m n rounds rounds2 m2 n2 same d d2 fair fair2 names names2.
      drains_found defs scripts search m n rounds rounds2 m2 n2 same d d2 fair fair2 names names2;
}
