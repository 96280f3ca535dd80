use Rattle.run_laws.proofs.OfMachines.{all_calls, ends, order, reached}
use Rattle.drain_laws.specs.ProductGauge.{gauge_with}
use Rattle.run_laws.proofs.OneValue.{event_has_turn, schedule_has_run}
use Rattle.run_laws.proofs.schedules.every_event_has_a_turn.Goals as goal

pub returns : goal.returns
returns c = record {
  turn = λ defs scripts m event are from is.
      event_has_turn defs scripts m event (reached defs scripts are m from).live.regions is;
  run = λ defs scripts m events are from each.
      schedule_has_run defs scripts (gauge_with (all_calls scripts) defs) (ends defs scripts are)
      (order defs scripts are) events m (reached defs scripts are m from) each;
}
