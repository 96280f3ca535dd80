use Rattle.std.proofs.Common.{rules}
use Rattle.log_groups.proofs.BufferParts.{walk_on}
use Rattle.log_groups.proofs.buffer.end_of.Goals as goal

pub loop-preserved : goal.loop-preserved
loop-preserved c = walk_on c.args.buffer.now c.args.start c.args.count c.loop.end c.loop.counter _ c.loop.invariant
    (search rules) c.next_end-end.ensures.later c.next_end-end.ensures.inside c.next_end-end.ensures.rest
