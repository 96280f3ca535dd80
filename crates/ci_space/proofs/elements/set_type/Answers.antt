use Rattle.std.proofs.Common.{arith, refl}
use Rattle.ci_space.proofs.Contents.{IsWithin, used-within, type-becomes}
use Rattle.ci_space.proofs.Standing.{becomes-others}
use Rattle.ci_space.proofs.elements.set_type.Goals as goal

pub overflow_add-bytes : goal.overflow_add-bytes
overflow_add-bytes c = let w : IsWithin c.args.bytes.now c.args.at 0 = used-within _ _ c.requires in omega arith

pub bounds-bytes-at : goal.bounds-bytes-at
bounds-bytes-at c = let w : IsWithin c.args.bytes.now c.args.at 0 = used-within _ _ c.requires in omega arith

pub returns-clause-becomes : goal.returns-clause-becomes
returns-clause-becomes c = type-becomes _ _ _

pub returns-clause-others : goal.returns-clause-others
returns-clause-others c = becomes-others _ _ _ _ c.requires (λ segment content u. refl) (type-becomes _ _ _)
