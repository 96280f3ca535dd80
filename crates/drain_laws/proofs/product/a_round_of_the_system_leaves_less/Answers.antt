use Rattle.drain_laws.proofs.OfSystem.{moves_of, less_of}
use Rattle.drain_laws.proofs.product.a_round_of_the_system_leaves_less.Goals as goal

pub returns : goal.returns
returns c = record {
  moves = λ defs scripts m steps m2 are cheap h goes. moves_of defs scripts are cheap m steps m2 h goes;
  less = λ defs scripts m steps m2 lines lines2 are cheap h goes same.
      less_of defs scripts are cheap m steps m2 lines lines2 h goes same;
}
