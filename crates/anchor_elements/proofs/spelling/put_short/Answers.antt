use Rattle.std.proofs.Common.{arith}
use Rattle.ci_space.proofs.Places.{puts-number}
use Rattle.anchor_elements.proofs.spelling.put_short.Goals as goal

pub returns : goal.returns
returns c = puts-number _ _ _ 2 _ c.requires (omega arith) c.write_u16.ensures
