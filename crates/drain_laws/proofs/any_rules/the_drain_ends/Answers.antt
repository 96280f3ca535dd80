use Rattle.drain_laws.proofs.Comes.{rounds_within, drain_within, part_within}
use Rattle.drain_laws.proofs.any_rules.the_drain_ends.Goals as goal

pub returns : goal.returns
returns c = record {
  rounds = λ rules gauge view m rounds m2 order laws h goes. rounds_within rules gauge laws view order rounds m m2 h
      goes;
  drain = λ rules gauge view m rounds m2 order laws h drains. drain_within rules gauge laws view order rounds m m2 h
      drains;
  part = λ rules gauge view m rounds steps m2 order laws h drains.
      part_within rules gauge laws view order rounds m steps m2 h drains;
}
