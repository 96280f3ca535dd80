use Rattle.drain_laws.proofs.Comes.{drain_comes, drain_there_is}
use Rattle.drain_laws.proofs.any_rules.a_drain_comes.Goals as goal

pub returns : goal.returns
returns c = record {
  any = λ rules gauge view order laws next m h. drain_comes rules gauge laws view order next m h;
  one = λ rules gauge view m order laws h. drain_there_is rules gauge laws view order m h;
}
