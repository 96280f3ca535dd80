use Rattle.ci_space.proofs.Reading.{zero-range, range-zero}
use Rattle.ci_space.proofs.elements.is_zero.Goals as goal

pub returns : goal.returns
returns c = (
  λ t. zero-range _ _ _ c.requires.end (c.all_zero.ensures.0 t),
  λ z. c.all_zero.ensures.1 (range-zero _ _ _ c.requires.end z),
)
