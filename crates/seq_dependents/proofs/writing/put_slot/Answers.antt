use Rattle.std.proofs.Common.{◌+◌, length, ap, ◌∙◌}
use Rattle.seq_dependents.proofs.Writes.{slot_put}
use Rattle.seq_dependents.proofs.writing.put_slot.Goals as goal
use Rattle.plain_laws.proofs.Results.{on_ok_map}

pub returns-clause-put : goal.returns-clause-put
returns-clause-put g c = λ t.
    let t1 = c.sequential.ensures.goes_on.tells t in
    on_ok_map _ _ _ (λ put. slot_put c.args.part.now _ _ c.args.serial c.args.previous c.interval_of-ci.result
    c.place_of-at.result c.args.segment.now _ _ _ c.interval_of-ci.ensures.number c.place_of-at.ensures.number
    c.place_of-at.ensures.behind c.place_of-at.ensures.within (c.in_ok-interval.ensures.sound t)
    (c.in_ok-interval.ensures.bytes t) c.set_slot.ensures.bytes
    (rw c.as_slice.ensures c.in-Ok.ensures.slot)
    (ap length c.as_slice.ensures ∙ c.in-Ok.ensures.size ∙ ap (λ n. 16 + n) c.requires.whole)
    (rw (c.in_ok-interval.ensures.same t) at put))
    (c.put_interval.ensures.put t1)
