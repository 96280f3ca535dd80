use Rattle.std.proofs.Common.{take}
use Rattle.past_settling.specs.inside.Queues.{TakesBack, any_names}
use Rattle.past_settling.proofs.back.take_back_all.Given as goal

abbrev pub invariant-loop-at : goal.invariant-loop-at
invariant-loop-at l = record {
  back : TakesBack l.fn.place (any_names l.fn.defs.msdbs (take l.at l.fn.calls)) l.fn.pasts l.pasts;
}
