use Rattle.std.specs.Ordering.{nat_cmp}
use Rattle.std.specs.BTreeMap.{get}
use Rattle.ci_overflow.proofs.Knowns.{known-put, other_length}
use Rattle.ci_overflow.proofs.known.SeenFull.put_known.Goals as goal

pub returns-in-Ok-clause-seen : goal.returns-in-Ok-clause-seen
returns-in-Ok-clause-seen c = λ shape area uow h k. record {
  each = known-put shape area area uow (get nat_cmp c.args.self.now.known) (get nat_cmp c.insert.new.self) c.args.length
      c.args.full c.in-Ok.ensures.updates.1 (λ q ne. c.in-Ok.ensures.updates.2 q (other_length c.args.length q ne))
      h.each k (λ m other x. x);
}
