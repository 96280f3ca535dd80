use Rattle.dedb_area.proofs.Applied.{pended}
use Rattle.dedb_area.proofs.applying.pend.Goals as goal

pub returns-clause-pending : goal.returns-clause-pending
returns-clause-pending c none =
    pended c.args.place c.args.set c.args.ci c.args.bytes c.args.pool.now c.stage.new.self c.publish.new.self none
    c.in_ok-stage.ensures.staged c.stage.ensures.pending c.publish.ensures.pending

pub returns-clause-sizes : goal.returns-clause-sizes
returns-clause-sizes c s n same has = c.publish.ensures.sizes s n (c.stage.ensures.sizes s n same has)
