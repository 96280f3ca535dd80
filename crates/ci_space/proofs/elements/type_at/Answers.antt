use Rattle.std.proofs.Common.{arith}
use Rattle.ci_space.proofs.Contents.{IsWithin, used-within, used-type}
use Rattle.ci_space.proofs.elements.type_at.Goals as goal

pub overflow_add-result : goal.overflow_add-result
overflow_add-result c = let w : IsWithin c.args.bytes.now c.args.at 0 = used-within _ _ c.requires in omega arith

pub bounds-bytes-at : goal.bounds-bytes-at
bounds-bytes-at c = let w : IsWithin c.args.bytes.now c.args.at 0 = used-within _ _ c.requires in omega arith

pub returns : goal.returns
returns c = used-type _ _
