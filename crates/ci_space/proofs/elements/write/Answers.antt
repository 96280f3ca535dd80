use Rattle.std.proofs.Common.{◌+◌, ◌++◌, length, drop, arith}
use Rattle.ci_space.specs.Element.{Used}
use Rattle.ci_space.specs.Interval.{written}
use Rattle.ci_space.proofs.Contents.{IsWithin, room-within, written-below, content-becomes, room-fits}
use Rattle.ci_space.proofs.Standing.{becomes-others, room-used, rewritten-size}
use Rattle.ci_space.proofs.elements.write.Goals as goal

pub overflow_add-at : goal.overflow_add-at
overflow_add-at c =
    let w : IsWithin c.args.bytes.now c.args.at (length c.args.from.now) = room-within _ _ _ c.requires in omega arith

pub put-requires : goal.put-requires
put-requires c = let w : IsWithin c.args.bytes.now c.args.at (length c.args.from.now) = room-within _ _ _ c.requires in
    omega arith

pub returns-clause-wrote : goal.returns-clause-wrote
returns-clause-wrote c = rw c.put.ensures (content-becomes c.args.bytes.now c.args.from.now c.args.at c.requires
    (room-fits _ _ _ c.requires))

pub returns-clause-head : goal.returns-clause-head
returns-clause-head c =
    let w : IsWithin c.args.bytes.now c.args.at (length c.args.from.now) = room-within _ _ _ c.requires in
    λ k x y. rw c.put.ensures (written-below c.args.bytes.now c.args.from.now (c.args.at + 4) k (omega arith)
    (omega arith))

pub returns-clause-others : goal.returns-clause-others
returns-clause-others c =
    rw c.put.ensures (becomes-others c.args.bytes.now (written c.args.bytes.now (c.args.at + 4) c.args.from.now)
    c.args.at
    (λ segment content. Used segment (c.args.from.now ++ drop (length c.args.from.now) content))
    (room-used _ _ _ c.requires)
    (λ segment content u. rewritten-size c.args.from.now content (room-fits _ _ _ c.requires segment content u))
    (content-becomes c.args.bytes.now c.args.from.now c.args.at c.requires (room-fits _ _ _ c.requires)))
