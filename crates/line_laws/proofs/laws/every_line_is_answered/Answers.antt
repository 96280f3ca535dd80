use Rattle.drain_laws.specs.ProductGauge.{gauge_with}
use Rattle.drain_laws.proofs.InOrder.{rest_ordered}
use Rattle.drain_laws.proofs.Live.{rest_live}
use Rattle.fp_model.specs.Machine.{at_rest}
use Rattle.fp_model.specs.Product.{rules_of}
use Rattle.run_laws.proofs.OfMachines.{all_calls, ends, order}
use Rattle.serial_order.specs.ProductView.{view_of}
use Rattle.serial_order.proofs.Turns.{at_rest_rests, rest_kept}
use Rattle.line_laws.proofs.Runs.{run_answers}
use Rattle.line_laws.proofs.laws.every_line_is_answered.Goals as goal

pub returns : goal.returns
returns c = λ defs scripts m are run drained.
    let rules = rules_of defs scripts in
    let gauge = gauge_with (all_calls scripts) defs in
    let lines = run.from.lines in
    let start = run.from.start in
    run_answers rules gauge (ends defs scripts are) (view_of defs) (order defs scripts are) lines start run.from.steps m
    (rest_kept rules (view_of defs) (at_rest rules lines start) (at_rest_rests rules lines start run.is_serial))
    (record { in_order = rest_ordered rules lines start; live = rest_live rules gauge lines start })
    run.from.runs drained
