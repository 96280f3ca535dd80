use Rattle.std.proofs.Common.{refl}
use Rattle.serial_order.proofs.Turns.{run_kept, rest_kept}
use Rattle.serial_order.proofs.any_rules.every_run_is_serial.Goals as goal

pub returns : goal.returns
returns c = record {
  history = λ rules view m steps m2 laws rest runs.
      (run_kept rules view laws m steps m2 runs (rest_kept rules view m rest)).history;
  serial = λ rules view m steps m2 laws rest runs. record {
    history = m2.history;
    leads = (run_kept rules view laws m steps m2 runs (rest_kept rules view m rest)).history;
    ends = refl;
  };
  apart = λ rules view m steps m2 laws rest runs. (run_kept rules view laws m steps m2 runs
      (rest_kept rules view m rest)).apart;
  no_cycle = λ rules view m steps m2 laws rest runs.
      (run_kept rules view laws m steps m2 runs (rest_kept rules view m rest)).no_cycle;
}
