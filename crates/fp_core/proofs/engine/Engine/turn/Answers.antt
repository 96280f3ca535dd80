use Rattle.std.proofs.Common.{◌∙◌, ap, Some}
use Rattle.fp_core.proofs.Turns.{at_work}
use Rattle.fp_core.proofs.engine.Engine.turn.Goals as goal

pub act-requires-clause-under : goal.act-requires-clause-under
act-requires-clause-under g c =
    let s = c.requires.stands in
    let work = at_work c.args.self.now s.0 c.args.region c.in-Active.field-0 c.requires.some s.1
    (c.region.ensures ∙ ap (λ r. Some r) c.in-Active.is) in
    (s.0, (work.0, work.1))

pub returns-in-Active-clause-turned : goal.returns-in-Active-clause-turned
returns-in-Active-clause-turned g c m s =
    let work = at_work c.args.self.now m c.args.region c.in-Active.field-0 c.requires.some s
    (c.region.ensures ∙ ap (λ r. Some r) c.in-Active.is) in
    c.act.ensures.turned m work.0 work.1
