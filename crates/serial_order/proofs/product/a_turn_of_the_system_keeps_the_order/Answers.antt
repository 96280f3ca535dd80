use Rattle.fp_model.specs.Product.{rules_of}
use Rattle.serial_order.specs.ProductView.{view_of}
use Rattle.serial_order.proofs.Turns.{turn_kept, run_kept}
use Rattle.serial_order.proofs.ProductLaws.{laws_of}
use Rattle.serial_order.proofs.product.a_turn_of_the_system_keeps_the_order.Goals as goal

pub returns : goal.returns
returns c = record {
  turn = λ defs scripts m e v m2 are turn k. turn_kept (rules_of defs scripts) (view_of defs)
      (laws_of defs scripts are.each_msdb) m e v m2 turn k;
  run = λ defs scripts m steps m2 are runs k. run_kept (rules_of defs scripts) (view_of defs)
      (laws_of defs scripts are.each_msdb) m steps m2 runs k;
}
