use Rattle.std.proofs.Common.{◌∙◌, sym}
use Rattle.std.specs.Ordering.{nat_cmp}
use Rattle.std.specs.BTreeMap.{get}
use Rattle.ci_overflow.proofs.Knowns.{known-out, other_length}
use Rattle.ci_overflow.proofs.known.SeenFull.take_known.Goals as goal

pub returns-in-Some : goal.returns-in-Some
returns-in-Some c shape area uow k = (
  k.each c.args.length c.in-Some.full (sym c.remove.ensures.value ∙ c.in-Some.is),
  record {
    each = known-out shape area uow (get nat_cmp c.args.self.now.known) (get nat_cmp c.remove.new.self) c.args.length
        c.remove.ensures.updates.1 (λ q ne. c.remove.ensures.updates.2 q (other_length c.args.length q ne)) k.each;
  },
)

pub returns-in-None : goal.returns-in-None
returns-in-None c shape area uow k = (
  c.new.ensures shape area uow c.args.length,
  record {
    each = known-out shape area uow (get nat_cmp c.args.self.now.known) (get nat_cmp c.remove.new.self) c.args.length
        c.remove.ensures.updates.1 (λ q ne. c.remove.ensures.updates.2 q (other_length c.args.length q ne)) k.each;
  },
)
