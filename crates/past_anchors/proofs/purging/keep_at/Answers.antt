use Rattle.std.proofs.Common.{◌+◌, ap, List, arith}
use Rattle.fp_model.specs.Commit.{kept_from}
use Rattle.fp_model.specs.declared.database.SeqItem.{SeqItem}
use Rattle.past_anchors.proofs.Lists.{one_further}
use Rattle.past_anchors.proofs.purging.keep_at.Goals as goal

pub loop-at-preserved : goal.loop-at-preserved
loop-at-preserved c =
    let root = c.item_mut.result.now in
    record {
      so_far =
          one_further (kept_from c.args.begin) 0 c.loop-at.at c.loop-at.at (c.loop-at.at + 1) (c.loop-at.at + 1)
          c.args.roots.now c.loop-at.roots root (omega arith) (omega arith) (omega arith) c.loop-at.invariant.so_far
          c.item_mut.ensures.value (record root { seqs = c.keep_newest.new.seqs })
          (ap (λ (s : List SeqItem). record root { seqs = s }) c.keep_newest.ensures);
    }
