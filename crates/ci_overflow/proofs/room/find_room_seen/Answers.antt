use Rattle.std.proofs.lemmas.Result.{err_from_is_err_and}
use Rattle.ci_overflow.proofs.FaultLemmas.{in-order-sound}
use Rattle.ci_overflow.proofs.room.find_room_seen.Goals as goal
use Rattle.plain_laws.proofs.Results.{same_fault}

pub returns-clause-takes : goal.returns-clause-takes
returns-clause-takes g c = λ t k. (c.in_ok-room.ensures.one t (c.take_known-full.ensures _ _ _ k).0).takes

pub returns-clause-own : goal.returns-clause-own
returns-clause-own g c = λ t k. (c.in_ok-room.ensures.one t (c.take_known-full.ensures _ _ _ k).0).own

pub returns-clause-room : goal.returns-clause-room
returns-clause-room g c = λ t k o.
    (c.in_ok-room.ensures.one t (c.take_known-full.ensures _ _ _ k).0).finds o

pub returns-clause-lists : goal.returns-clause-lists
returns-clause-lists g c = λ t k o.
    (c.in_ok-room.ensures.one t (c.take_known-full.ensures _ _ _ k).0).in_order o

pub returns-clause-seen : goal.returns-clause-seen
returns-clause-seen g c = λ t k.
    let was = c.take_known-full.ensures _ _ _ k in
    c.in_ok-put_known.ensures.seen c.args.shape.now _ _ (record {
      each = λ n other x. c.in_ok-room.ensures.others t n other (was.1.each n other x);
    }) (c.in_ok-room.ensures.known t was.0)

pub returns-in_err-room-clause-damaged : goal.returns-in_err-room-clause-damaged
returns-in_err-room-clause-damaged g c = λ t k f n e.
    let p = err_from_is_err_and c.from_residual.result c.from_residual.ensures.1 in
    c.in_err-room.ensures.damaged t f (c.take_known-full.ensures _ _ _ k).0 n (same_fault _ _ _ _ p.1 p.2 e)

pub returns-in_err-room-clause-sound : goal.returns-in_err-room-clause-sound
returns-in_err-room-clause-sound g c = λ t k o f n e. in-order-sound _ _ n o
    (returns-in_err-room-clause-damaged g c t k f n e)
