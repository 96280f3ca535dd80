use Rattle.std.proofs.Common.{◌≡◌, refl, arith, ◌-◌, ◌≤◌, length}
use Rattle.std.proofs.lemmas.Grind.{common_steps}
use Rattle.fp_model.specs.History.{place_of}
use Rattle.fp_core.specs.Relation.{rules_in}
use Rattle.fp_core.specs.Sparing.{IsLogSet}
use Rattle.fp_core.proofs.Checkpoints.{ckpt_nothing, ckpt_turned}
use Rattle.fp_core.proofs.FrontLemmas.{fronts_none, holds_none}
use Rattle.fp_core.proofs.SparingLemmas.{spares_none}
use Rattle.fp_core.proofs.Steps.{left_alone}
use Rattle.fp_core.proofs.engine.Engine.seal_all.Goals as goal

pub returns-in_default-clause-leaves : goal.returns-in_default-clause-leaves
returns-in_default-clause-leaves g c origin m told at =
    left_alone origin (rules_in c.args.self.now) m (place_of m.history - m.sealed) (g.T.Site.disk c.args.site.now)
    c.args.self.now (g.met.T.Site.lawful c.args.site.now told) at

pub returns-then-count-eq0-clause-at : goal.returns-then-count-eq0-clause-at
returns-then-count-eq0-clause-at g c origin m told at =
    let engine = c.args.self.now in
    let none : length engine.owed.items ≡ 0 = grind (arith, common_steps, c.in-Ok.ensures, c.len.ensures) in
    record { turned = ckpt_nothing engine m at.parts none; at = at }

pub returns-then-count-eq0-clause-leaves : goal.returns-then-count-eq0-clause-leaves
returns-then-count-eq0-clause-leaves g c origin m told at =
    left_alone origin (rules_in c.args.self.now) m (place_of m.history - m.sealed) (g.T.Site.disk c.args.site.now)
    c.args.self.now (g.met.T.Site.lawful c.args.site.now told) at

pub returns-clause-turned : goal.returns-clause-turned
returns-clause-turned g c m s =
    let engine = c.args.self.now in
    let long : c.in-Ok.count ≡ length engine.owed.items = grind (arith, common_steps, c.in-Ok.ensures, c.len.ensures) in
    let some : 1 ≤ c.in-Ok.count = omega arith in
    ckpt_turned engine c.seal_rest.new.self m c.in-Ok.count s c.seal_rest.ensures.rules long some
    (c.in_ok-seal_rest.ensures.sealed m s)

pub returns-clause-at : goal.returns-clause-at
returns-clause-at g c origin m told at =
    let engine = c.args.self.now in
    let long : c.in-Ok.count ≡ length engine.owed.items = grind (arith, common_steps, c.in-Ok.ensures, c.len.ensures) in
    let some : 1 ≤ c.in-Ok.count = omega arith in
    let behind = c.in_ok-seal_rest.ensures.at origin m told at in
    record {
      turned = ckpt_turned engine c.seal_rest.new.self m c.in-Ok.count at.parts c.seal_rest.ensures.rules long some
          behind.parts;
      at = behind;
    }

pub returns-in_default-clause-spares : goal.returns-in_default-clause-spares
returns-in_default-clause-spares g c told =
    spares_none IsLogSet (g.T.Site.disk c.args.site.now) (g.met.T.Site.lawful c.args.site.now told)

pub returns-then-count-eq0-clause-spares : goal.returns-then-count-eq0-clause-spares
returns-then-count-eq0-clause-spares g c told =
    spares_none IsLogSet (g.T.Site.disk c.args.site.now) (g.met.T.Site.lawful c.args.site.now told)

pub returns-in_default-clause-front : goal.returns-in_default-clause-front
returns-in_default-clause-front g c told =
    fronts_none (g.T.Site.disk c.args.site.now) c.args.self.now.log.gate (g.met.T.Site.lawful c.args.site.now told)

pub returns-then-count-eq0-clause-front : goal.returns-then-count-eq0-clause-front
returns-then-count-eq0-clause-front g c told =
    fronts_none (g.T.Site.disk c.args.site.now) c.args.self.now.log.gate (g.met.T.Site.lawful c.args.site.now told)

pub returns-then-count-eq0-clause-front_on : goal.returns-then-count-eq0-clause-front_on
returns-then-count-eq0-clause-front_on g c told =
    holds_none (g.T.Site.disk c.args.site.now) c.args.self.now.log.gate c.args.self.now.log.gate refl
