use Rattle.std.proofs.Common.{refl}
use Rattle.dedb_storm.proofs.Banks.{other_goes}
use Rattle.dedb_storm.proofs.live.first_does.Goals as goal

pub returns-clause-going : goal.returns-clause-going
returns-clause-going g c =
    let mine = c.in_ok-came.ensures.going in
    record {
      one = mine;
      two = other_goes c.args.defs.now 1 2 c.done.new.work c.args.second.now c.args.locks.now c.done.new.locks refl mine
          c.in_ok-came.ensures.others c.requires.going.two;
    }
