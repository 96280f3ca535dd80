use Rattle.serial_order.proofs.Turns.{turn_kept, run_kept}
use Rattle.serial_order.proofs.any_rules.a_turn_keeps_the_order.Goals as goal

pub returns : goal.returns
returns c = record {
  turn = λ rules view m e v m2 laws turn k. turn_kept rules view laws m e v m2 turn k;
  run = λ rules view m steps m2 laws runs k. run_kept rules view laws m steps m2 runs k;
}
