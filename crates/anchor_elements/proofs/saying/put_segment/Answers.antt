use Rattle.anchor_elements.proofs.ElementLemmas.{parts_bound, puts_segment, stays_segment}
use Rattle.anchor_elements.proofs.saying.put_segment.Goals as goal
use Rattle.plain_laws.proofs.Results.{on_ok_map}

pub spelled_length-length-requires : goal.spelled_length-length-requires
spelled_length-length-requires g c = parts_bound _ _ _ _ _ (g.met.I.Intervals.is_sized c.args.i.now) c.requires.types
    c.requires.defined c.requires.segment c.requires.firsts c.requires.bytes

pub returns-then-not-say-clause-put : goal.returns-then-not-say-clause-put
returns-then-not-say-clause-put g c = λ t r.
    stays_segment _ _ _ _ _ _ _ _ _ (c.in_ok-interval.ensures.same t) (c.in_ok-interval.ensures.bytes t)
    (c.say.ensures.same c.if-not-say.true)
    c.has_serial-with_serial.ensures c.requires.firsts c.requires.bytes c.requires.serial c.say.ensures.says
    c.say.ensures.others c.say.ensures.head

pub returns-clause-put : goal.returns-clause-put
returns-clause-put g c = λ t r.
    on_ok_map _ _ _ (λ put. puts_segment _ _ _ _ _ _ _ _ _ _ (c.in_ok-interval.ensures.same t)
    (c.in_ok-interval.ensures.bytes t) put
    c.has_serial-with_serial.ensures c.requires.firsts c.requires.bytes c.requires.serial c.say.ensures.says
    c.say.ensures.others c.say.ensures.head)
    (c.put.ensures.put (c.interval_at.ensures.goes_on.tells t))
