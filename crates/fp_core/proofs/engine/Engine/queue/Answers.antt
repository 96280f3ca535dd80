use Rattle.fp_core.proofs.Readings.{queued_stands}
use Rattle.fp_core.proofs.engine.Engine.queue.Goals as goal

pub returns-clause-queued : goal.returns-clause-queued
returns-clause-queued g c m s =
    queued_stands c.args.self.now m s c.args.message c.args.router.now.kind c.offer.new.self c.requires.routed
    c.requires.takeable
    (c.in_ok-offer.ensures.queued c.requires.free) (c.in_ok-offer.ensures.marked c.requires.free)
