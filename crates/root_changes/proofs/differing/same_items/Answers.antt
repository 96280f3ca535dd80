use Rattle.std.proofs.Common.{refl, arith}
use Rattle.root_changes.proofs.ComparingLemmas.{all_same}
use Rattle.root_changes.proofs.differing.same_items.Goals as goal

pub returns : goal.returns
returns c = (
  (λ yes. all_same c.args.items.now c.args.others.now c.loop-place.place (omega (arith, c.loop-place-test.false))
      (omega (arith, c.loop-place-test.false, c.if-items-others.false)) c.loop-place.invariant.same),
  (λ e. refl),
)
