use Rattle.std.proofs.Common.{refl}
use Rattle.fp_model.specs.Product.{rules_of}
use Rattle.serial_order.specs.ProductView.{view_of}
use Rattle.serial_order.proofs.Turns.{run_kept, rest_kept}
use Rattle.serial_order.proofs.ProductLaws.{laws_of}
use Rattle.serial_order.proofs.product.every_run_of_the_system_is_serial.Goals as goal

pub returns : goal.returns
returns c = record {
  history = λ defs scripts m steps m2 are rest runs.
      (run_kept (rules_of defs scripts) (view_of defs) (laws_of defs scripts are.each_msdb) m steps m2 runs
      (rest_kept (rules_of defs scripts) (view_of defs) m rest)).history;
  serial = λ defs scripts m steps m2 are rest runs. record {
    history = m2.history;
    leads = (run_kept (rules_of defs scripts) (view_of defs) (laws_of defs scripts are.each_msdb) m steps m2 runs
        (rest_kept (rules_of defs scripts) (view_of defs) m rest)).history;
    ends = refl;
  };
  apart = λ defs scripts m steps m2 are rest runs. (run_kept (rules_of defs scripts) (view_of defs)
      (laws_of defs scripts are.each_msdb) m steps m2 runs
      (rest_kept (rules_of defs scripts) (view_of defs) m rest)).apart;
  no_cycle = λ defs scripts m steps m2 are rest runs.
      (run_kept (rules_of defs scripts) (view_of defs) (laws_of defs scripts are.each_msdb) m steps m2 runs
      (rest_kept (rules_of defs scripts) (view_of defs) m rest)).no_cycle;
}
