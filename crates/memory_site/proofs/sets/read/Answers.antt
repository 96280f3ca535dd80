use Rattle.std.proofs.Common.{◌≡◌, length, arith}
use Rattle.memory_site.proofs.DataSets.{read_range_by}
use Rattle.memory_site.proofs.sets.read.Goals as goal

pub returns : goal.returns
returns c =
    let len : length c.loop-i.into ≡ length c.args.into.now = c.loop-i.auto.into in
    read_range_by c.args.bytes.now c.args.at (length c.args.into.now) c.loop-i.into len
    (λ k lt. c.loop-i.invariant k (let l = lt in omega arith))
