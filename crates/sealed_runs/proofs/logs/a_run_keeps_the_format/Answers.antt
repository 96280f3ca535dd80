use Rattle.fp_model.specs.Product.{rules_of}
use Rattle.serial_order.proofs.Lines.{refuses_only}
use Rattle.sealed_runs.proofs.Formats.{run_format}
use Rattle.sealed_runs.proofs.logs.a_run_keeps_the_format.Goals as goal

pub returns : goal.returns
returns c = λ defs scripts m m2 steps runs.
    run_format (rules_of defs scripts) (λ h line o. refuses_only scripts h line o) m steps m2 runs
