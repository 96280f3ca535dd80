use Rattle.std.proofs.Common.{arith}
use Rattle.ci_space.proofs.Reading.{zero-range, range-zero}
use Rattle.anchor_elements.proofs.element.is_zero_from.Goals as goal

pub returns : goal.returns
returns c = (
  λ t. zero-range _ _ _ (omega arith) (c.all_zero.ensures.0 t),
  λ z. c.all_zero.ensures.1 (range-zero _ _ _ (omega arith) z),
)
