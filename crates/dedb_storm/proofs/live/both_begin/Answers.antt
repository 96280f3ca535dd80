use Rattle.std.proofs.Common.{arith}
use Rattle.dedb_storm.proofs.Banks.{begins, free_starts}
use Rattle.dedb_storm.proofs.live.both_begin.Goals as goal

pub returns : goal.returns
returns c =
    let free = c.in_ok-locks.ensures in
    record {
      one = begins c.args.defs.now 1 c.in_ok-first.first c.in_ok-locks.locks c.in_ok-first.ensures.of
          c.in_ok-first.ensures.anchors (omega arith) (omega arith) (free_starts 1 c.in_ok-locks.locks free);
      two = begins c.args.defs.now 2 c.in_ok-second.second c.in_ok-locks.locks c.in_ok-second.ensures.of
          c.in_ok-second.ensures.anchors (omega arith) (omega arith) (free_starts 2 c.in_ok-locks.locks free);
    }
