use Rattle.std.proofs.Common.{◌≡◌, drop}
use Rattle.fp_model.specs.Settle.{settle, settle_from}
use Rattle.past_segments.specs.Pasts.{databases_at}
use Rattle.past_settling.specs.inside.Queues.{LeavesAll, any_names}
use Rattle.past_settling.proofs.queue.settle_all.Given as goal

abbrev pub invariant-loop-at : goal.invariant-loop-at
invariant-loop-at l = record {
  queue : settle l.fn.defs.msdbs (databases_at l.fn.place l.fn.pasts) l.fn.calls
      ≡ settle_from l.fn.defs.msdbs l.at (databases_at l.fn.place l.pasts) (drop l.at l.fn.calls);
  leaves : LeavesAll l.fn.defs.msdbs l.fn.place (any_names l.fn.defs.msdbs l.fn.calls) l.fn.pasts l.pasts;
}
