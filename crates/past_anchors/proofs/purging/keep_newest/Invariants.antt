use Rattle.std.proofs.Common.{◌≡◌, length}
use Rattle.std.specs.Prelude.{filter, nat_le}
use Rattle.past_anchors.specs.inside.Purges.{AreFalling}
use Rattle.past_anchors.proofs.purging.keep_newest.Given as goal

abbrev pub invariant-loop-seqs : goal.invariant-loop-seqs
invariant-loop-seqs l = record {
  kept : filter (λ item. nat_le l.begin item.serial) l.seqs ≡ filter (λ item. nat_le l.begin item.serial) l.fn.seqs;
  falling : AreFalling l.seqs;
}

abbrev pub decreases-loop-seqs : goal.decreases-loop-seqs
decreases-loop-seqs l = length l.seqs
