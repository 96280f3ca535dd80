use Rattle.std.proofs.Common.{◌≡◌, ◌≤◌, ◌<◌, ◌++◌, ◌-◌, length}
use Rattle.fp_source.specs.Source.{ReadsOnly}
use Rattle.fp_source.proofs.whole_part.whole.Given as goal

abbrev pub invariant-loop-bytes : goal.invariant-loop-bytes
invariant-loop-bytes g l = record {
  source : ReadsOnly g.S.Source.told g.S.Source.left g.S.Source.faults g.S.Source.holds g.S.Source.keeps l.part
      l.initial.source l.source;
  bytes : g.S.Source.told l.initial.source → g.S.Source.left l.initial.source l.part ≡ l.bytes ++ g.S.Source.left
      l.source l.part;
  limit : length l.bytes ≤ l.limit;
  block : 0 < length l.block.items;
  calm : g.S.Source.faults l.source ≡ g.S.Source.faults l.initial.source;
}

abbrev pub decreases-loop-bytes : goal.decreases-loop-bytes
decreases-loop-bytes g l = l.limit - length l.bytes
