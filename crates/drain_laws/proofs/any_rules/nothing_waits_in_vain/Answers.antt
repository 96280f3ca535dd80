use Rattle.drain_laws.proofs.InOrder.{rest_ordered, kept_ordered}
use Rattle.drain_laws.proofs.Live.{rest_live}
use Rattle.drain_laws.proofs.Rounds.{reached_then, reached_after, relined}
use Rattle.drain_laws.proofs.any_rules.nothing_waits_in_vain.Goals as goal

pub returns : goal.returns
returns c = record {
  rest = λ rules gauge lines h. record {
    in_order = rest_ordered rules lines h;
    live = rest_live rules gauge lines h;
  };
  turn = λ rules gauge view m e v m2 order laws h turn. reached_then rules gauge laws view order m e v m2 h turn;
  run = λ rules gauge view m steps m2 order laws h runs. reached_after rules gauge laws view order m steps m2 h runs;
  lines = relined;
  kept = λ rules gauge view m k live. record { in_order = kept_ordered rules view m k; live = live };
}
