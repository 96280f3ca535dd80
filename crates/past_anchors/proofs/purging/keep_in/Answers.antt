use Rattle.std.proofs.Common.{◌+◌, ◌-◌, arith, map}
use Rattle.fp_model.specs.Commit.{kept_from}
use Rattle.past_anchors.proofs.Lists.{as_it_was, one_further}
use Rattle.past_anchors.proofs.purging.keep_in.Goals as goal

pub keep_at-requires : goal.keep_at-requires
keep_at-requires c =
    let first = c.args.first in
    let at = c.loop-at.at in
    c.requires.fall at c.item_mut.result.now (omega arith) (omega arith)
    (as_it_was (map (kept_from c.args.begin)) first (at - first) at (at + 1 - first) (at + 1) c.args.anchors.now
    c.loop-at.anchors c.item_mut.result.now (omega arith) (omega arith) (omega arith) c.loop-at.invariant.so_far
    c.item_mut.ensures.value)

pub loop-at-preserved : goal.loop-at-preserved
loop-at-preserved c =
    let first = c.args.first in
    let at = c.loop-at.at in
    record {
      so_far =
          one_further (map (kept_from c.args.begin)) first (at - first) at (at + 1 - first) (at + 1) c.args.anchors.now
          c.loop-at.anchors c.item_mut.result.now (omega arith) (omega arith) (omega arith) c.loop-at.invariant.so_far
          c.item_mut.ensures.value c.keep_at.new.roots c.keep_at.ensures;
    }
