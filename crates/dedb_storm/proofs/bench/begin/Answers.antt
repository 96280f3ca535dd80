use Rattle.dedb_storm.proofs.Benches.{begun_on}
use Rattle.dedb_storm.proofs.bench.begin.Goals as goal

pub returns : goal.returns
returns c =
    begun_on c.args.defs.now.dedbs c.in_ok-work.work c.in_ok-locks.locks c.in_ok-work.ensures.of
    c.in_ok-locks.ensures.regions c.in_ok-locks.ensures.none
