-- Making room changes no segment, so what was staged is published.
use Rattle.sync_point.proofs.Stores.{same_store}
use Rattle.fp_trace.proofs.following.settle.Goals as goal

pub returns-in-Ok : goal.returns-in-Ok
returns-in-Ok c defs able =
    let room = c.in_ok-reserve-in-Ok.ensures in
    c.publish.ensures.of defs
    (same_store defs c.args.store.now c.reserve.new.self room.layouts room.msdbs able.of)
    (rw room.msdbs (c.in-Ok.ensures.staged defs able))
