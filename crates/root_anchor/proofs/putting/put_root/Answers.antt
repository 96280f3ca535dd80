use Rattle.std.proofs.Common.{◌∙◌, sym, ap}
use Rattle.ci_space.specs.Interval.{kind_of}
use Rattle.ci_overflow.specs.Lists.{bytes_at}
use Rattle.root_anchor.proofs.PutLemmas.{base_kind}
use Rattle.root_anchor.proofs.RootPuts.{puts_root, stays_root}
use Rattle.anchor_elements.proofs.ElementLemmas.{pointer_is}
use Rattle.root_anchor.proofs.putting.put_root.Goals as goal
use Rattle.ci_space.proofs.GoingLemmas.{goes_on_joined}
use Rattle.plain_laws.proofs.Results.{on_ok_map}

pub returns-then-head-ne-BASE-clause-sound : goal.returns-then-head-ne-BASE-clause-sound
returns-then-head-ne-BASE-clause-sound g c = λ t p ci e.
    c.if-head-ne-BASE.true
    (ap (λ h. h.kind) c.head-head.ensures.head ∙ ap kind_of (c.in_ok-interval.ensures.bytes t) ∙ ap
    (λ k. kind_of (bytes_at (g.I.Intervals.intervals c.args.i.now) k)) c.base_of-base.ensures
    ∙ p.is_kind ∙ base_kind c.args.shape.now c.args.anchor c.requires.anchor)

pub returns-then-eq-clause-put : goal.returns-then-eq-clause-put
returns-then-eq-clause-put g c = λ t p.
    stays_root _ _ _ _ _ _ _ _ c.base_of-base.ensures (c.in_ok-interval.ensures.same t)
    (c.in_ok-interval.ensures.bytes t) c.in_ok-interval.ensures.interval c.head-head.ensures.head
    (pointer_is _ _ (sym c.eq.ensures ∙ c.if-eq.true))

pub returns-clause-put : goal.returns-clause-put
returns-clause-put g c = λ t p.
    on_ok_map _ _ _ (λ put. puts_root _ _ _ _ _ _ _ _ _ _ c.base_of-base.ensures (c.in_ok-interval.ensures.same t)
    (c.in_ok-interval.ensures.bytes t) put c.in_ok-interval.ensures.interval c.head-head.ensures.head
    c.set_head.ensures.head c.set_head.ensures.tiles)
    (c.put.ensures.put (c.interval_at.ensures.goes_on.tells t))

pub returns-clause-goes_on : goal.returns-clause-goes_on
returns-clause-goes_on g c = goes_on_joined _ _ _ _ _ _ _ c.interval_at.ensures.goes_on c.put.ensures.goes_on

pub returns-clause-damaged : goal.returns-clause-damaged
returns-clause-damaged g c = λ ci e. absurd (c.put.ensures.sound ci e)
