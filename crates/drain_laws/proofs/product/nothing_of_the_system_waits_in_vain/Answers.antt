use Rattle.drain_laws.proofs.OfSystem.{rest_of, turn_of, run_of}
use Rattle.drain_laws.proofs.product.nothing_of_the_system_waits_in_vain.Goals as goal

pub returns : goal.returns
returns c = record {
  rest = rest_of;
  turn = λ defs scripts m e v m2 are cheap h turn. turn_of defs scripts are cheap m e v m2 h turn;
  run = λ defs scripts m steps m2 are cheap h runs. run_of defs scripts are cheap m steps m2 h runs;
}
