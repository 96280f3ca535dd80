use Rattle.std.proofs.Common.{refl}
use Rattle.drain_laws.proofs.Rounds.{rounds_more, rounds_drain, rounds_drain_in_part}
use Rattle.drain_laws.proofs.any_rules.rounds_make_a_drain.Goals as goal

pub returns : goal.returns
returns c = record {
  none = λ rules m. refl;
  more = λ rules m rounds mid steps m2 goes one. rounds_more rules rounds m mid steps m2 goes one;
  drained = λ rules m rounds m2 goes drained. rounds_drain rules rounds m m2 goes drained;
  part = λ rules m rounds mid steps left m2 goes undone takes runs.
      rounds_drain_in_part rules rounds m mid steps left m2 goes undone takes runs;
}
