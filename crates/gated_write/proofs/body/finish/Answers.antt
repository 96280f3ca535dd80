use Rattle.std.proofs.Common.{◌∙◌}
use Rattle.gated_write.proofs.Bodies.{finish_settles, finish_through, on_ok, only_one}
use Rattle.gated_write.proofs.Fronts.{sync_keeps, sync_settles}
use Rattle.gated_write.proofs.body.finish.Goals as goal

pub returns-clause-only : goal.returns-clause-only
returns-clause-only g c t = only_one c.args.set _ _ _ (g.met.S.Site.lawful c.args.site.now t) (c.sync.ensures.leaves t)
    (c.sync.ensures.crash t)

pub returns-clause-ready : goal.returns-clause-ready
returns-clause-ready g c old gate body t writing = on_ok c.sync.result (c.sync.ensures.durable t)
    (λ durable. record {
      stands = writing.stands;
      durable = durable;
      rest = writing.rest;
      is = c.sync.ensures.same t ∙ writing.is;
    })

pub returns-clause-crash : goal.returns-clause-crash
returns-clause-crash g c old gate t each = finish_through c.args.set _ _ (g.met.S.Site.lawful c.args.site.now t)
    (g.met.S.Site.lawful c.sync.new.self (c.sync.ensures.site.still_told t)) (c.sync.ensures.crash t) old gate each

pub returns-clause-settles : goal.returns-clause-settles
returns-clause-settles g c old gate t each = finish_settles c.args.set _ _ (g.met.S.Site.lawful c.args.site.now t)
    (g.met.S.Site.lawful c.sync.new.self (c.sync.ensures.site.still_told t)) (c.sync.ensures.crash t) old gate each

pub returns-clause-front : goal.returns-clause-front
returns-clause-front g c old gate t each = sync_keeps c.args.set _ _ (g.met.S.Site.lawful c.args.site.now t)
    (g.met.S.Site.lawful c.sync.new.self (c.sync.ensures.site.still_told t)) (c.sync.ensures.crash t) old gate each

pub returns-clause-front_settles : goal.returns-clause-front_settles
returns-clause-front_settles g c old gate t each = sync_settles c.args.set _ _ (g.met.S.Site.lawful c.args.site.now t)
    (g.met.S.Site.lawful c.sync.new.self (c.sync.ensures.site.still_told t)) (c.sync.ensures.crash t) old gate each
