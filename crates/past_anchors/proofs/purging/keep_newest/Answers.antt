use Rattle.std.proofs.Common.{◌∙◌, ap, sym}
use Rattle.past_anchors.specs.inside.Purges.{ends_below}
use Rattle.past_anchors.proofs.Dropping.{all_kept, popped_falls, popped_kept}
use Rattle.past_anchors.proofs.purging.keep_newest.Goals as goal

pub loop-seqs-preserved-in-loop-seqs : goal.loop-seqs-preserved-in-loop-seqs
loop-seqs-preserved-in-loop-seqs c =
    let older = ap (ends_below c.args.begin) (sym c.as_slice.ensures) ∙ sym c.ends_below.ensures ∙ c.loop-seqs-test.true
    in record {
      kept =
          popped_kept c.args.begin c.pop.result c.loop-seqs.seqs c.pop.new.self c.pop.ensures older
          ∙ c.loop-seqs.invariant.kept;
      falling =
          popped_falls c.args.begin c.pop.result c.loop-seqs.seqs c.pop.new.self c.pop.ensures older
          c.loop-seqs.invariant.falling;
    }

pub returns : goal.returns
returns c =
    all_kept c.args.begin c.loop-seqs.seqs c.loop-seqs.invariant.falling
    (ap (ends_below c.args.begin) (sym c.as_slice.ensures) ∙ sym c.ends_below.ensures ∙ c.loop-seqs-test.false)
    ∙ c.loop-seqs.invariant.kept
