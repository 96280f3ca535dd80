use Rattle.drain_laws.proofs.Rounds.{round_moves, round_falls}
use Rattle.drain_laws.proofs.any_rules.a_round_leaves_less.Goals as goal

pub returns : goal.returns
returns c = record {
  moves = λ rules gauge view m steps m2 order laws h goes. round_moves rules gauge laws view order m steps m2 h goes;
  less = λ rules gauge view m steps m2 lines lines2 order laws h goes same.
      round_falls rules gauge laws view order m steps m2 lines lines2 h goes same;
}
