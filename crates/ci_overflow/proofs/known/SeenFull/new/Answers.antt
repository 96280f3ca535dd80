use Rattle.ci_overflow.proofs.Knowns.{known-empty}
use Rattle.ci_overflow.proofs.known.SeenFull.new.Goals as goal

pub returns : goal.returns
returns c shape area uow = record {
  each = λ n known g. absurd (known-empty c.new.result n known c.new.ensures.empty g);
}
