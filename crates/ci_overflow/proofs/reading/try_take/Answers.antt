use Rattle.std.proofs.Common.{◌<◌, length, ap, arith}
use Rattle.ci_overflow.proofs.Tries.{tried-taken, tried-full}
use Rattle.ci_overflow.proofs.reading.try_take.Goals as goal
use Rattle.ci_space.proofs.GoingLemmas.{goes_on_joined}

pub returns-in_err-write-in-Some-clause-goes_on : goal.returns-in_err-write-in-Some-clause-goes_on
returns-in_err-write-in-Some-clause-goes_on g c = goes_on_joined _ _ _ _ _ _ _ c.read.ensures.goes_on
    c.write.ensures.goes_on

pub returns-in_ok-write-in-Some-clause-tried : goal.returns-in_ok-write-in-Some-clause-tried
returns-in_ok-write-in-Some-clause-tried g c = λ t.
    let same = c.in_ok-interval.ensures.same t in
    let below : c.args.place.ci < length (g.I.Intervals.intervals c.args.i.now) =
    omega (arith, g.met.I.Intervals.numbered c.args.i.now t, c.in_ok-interval.ensures.below) in
    let put = c.in_ok-write-in-Some.ensures.put (c.read.ensures.goes_on.tells t) in
    tried-taken _ _ _ _ _ _ c.args.place.kind c.args.place.owner _ _ _ same (c.in_ok-interval.ensures.bytes t) below
    c.in_ok-interval.ensures.kind c.in_ok-interval.ensures.owner
    c.requires.no_control c.requires.owned (ap (λ h. h.link) c.head-link.ensures.head)
    c.in-Some.ensures.some c.in-Some.ensures.room c.in-Some.ensures.fresh c.in-Some.ensures.others c.take.ensures.head
    put

pub returns-in_ok-write-in-Some-clause-goes_on : goal.returns-in_ok-write-in-Some-clause-goes_on
returns-in_ok-write-in-Some-clause-goes_on g c = goes_on_joined _ _ _ _ _ _ _ c.read.ensures.goes_on
    c.write.ensures.goes_on

pub returns-in-None-clause-tried : goal.returns-in-None-clause-tried
returns-in-None-clause-tried g c = λ t.
    tried-full _ _ _ _ _ _ (c.in_ok-interval.ensures.same t) (c.in_ok-interval.ensures.bytes t)
    (ap (λ h. h.link) c.head-link.ensures.head) c.in-None.ensures.full
