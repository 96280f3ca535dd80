use Rattle.std.proofs.Common.{◌≡◌, refl, ◌∙◌, arith, ◌-◌, ◌≤◌, length}
use Rattle.fp_lists.proofs.ContinuedLemmas.{continued_both, continued_none}
use Rattle.std.proofs.lemmas.Grind.{common_steps}
use Rattle.fp_model.specs.History.{place_of}
use Rattle.fp_model.specs.Machine.{sealed_times}
use Rattle.fp_core.specs.Relation.{rules_in}
use Rattle.fp_core.specs.Sparing.{IsLogSet}
use Rattle.fp_core.proofs.Checkpoints.{all_at, all_sealed, at_step, fewer, leaves_step, sealed_step}
use Rattle.fp_core.proofs.FrontLemmas.{fronts_none, fronts_on, holds_none, holds_on}
use Rattle.fp_core.proofs.SparingLemmas.{spares_none, spares_on}
use Rattle.fp_core.proofs.Steps.{left_alone}
use Rattle.fp_core.proofs.engine.Engine.seal_rest.Goals as goal

pub loop-self-init : goal.loop-self-init
loop-self-init g c =
    let engine = c.args.self.now in
    let disk = g.T.Site.disk c.args.site.now in
    record {
      stands = c.requires.stands;
      sealed = λ m s. record { times = 0; few = omega arith; stands = s };
      at = λ origin m told at. record { times = 0; few = omega arith; at = at };
      leaves = λ origin m told at. left_alone origin (rules_in engine) m (place_of m.history - m.sealed) disk engine
          (g.met.T.Site.lawful c.args.site.now told) at;
      rules = refl;
      defs = refl;
      scripts = refl;
      count = refl;
      most = omega arith;
      reads = λ set h. (h, refl);
      calm = refl;
      spares = λ told. spares_none IsLogSet disk (g.met.T.Site.lawful c.args.site.now told);
      front = λ told. fronts_none disk engine.log.gate (g.met.T.Site.lawful c.args.site.now told);
      front_on = λ told. holds_none disk engine.log.gate engine.log.gate refl;
      site = continued_none g.T.Site.told g.T.Site.faults g.T.Site.holds g.T.Site.keeps c.args.site.now;
    }

pub loop-self-preserved : goal.loop-self-preserved
loop-self-preserved g c =
    let first = c.args.self.now in
    let old = c.loop-self.self in
    let new = c.seal.new.self in
    let given = c.in_ok-seal.field-0 in
    let before = c.loop-self.invariant in
    let one = c.seal.ensures in
    let some : 1 ≤ length old.owed.items = grind (arith, common_steps) in
    let d0 = g.T.Site.disk c.args.site.now in
    let d1 = g.T.Site.disk c.loop-self.site in
    let d2 = g.T.Site.disk c.seal.new.site in
    record {
      stands = let t = c.in_ok-seal.ensures.turned before.stands.0 before.stands.1 in (t.after, t.stands);
      sealed = λ m s.
          let h = before.sealed m s in
          sealed_step (rules_in first) m (length first.owed.items) old new given before.rules one.rules some h
          (c.in_ok-seal.ensures.turned (sealed_times h.times (rules_in first) m) h.stands);
      at = λ origin m told at.
          let h = before.at origin m told at in
          at_step (rules_in first) m (length first.owed.items) old new given before.rules one.rules some origin d1 d2 h
          (c.in_ok-seal.ensures.at origin (sealed_times h.times (rules_in first) m) (before.site.still_told told) h.at);
      leaves = λ origin m told at.
          let h = before.at origin m told at in
          let told1 = before.site.still_told told in
          leaves_step origin (rules_in first) m first old d0 d1 d2 before.rules at.parts some h
          (g.met.T.Site.lawful c.loop-self.site told1) (before.leaves origin m told at)
          (one.leaves origin (sealed_times h.times (rules_in first) m) told1 h.at);
      rules = one.rules ∙ before.rules;
      defs = one.defs ∙ before.defs;
      scripts = one.scripts ∙ before.scripts;
      count = one.count ∙ before.count;
      most = omega (arith, one.most, before.most);
      reads = λ set h. let after = one.reads set h in let earlier = before.reads set after.0 in
          (earlier.0, after.1 ∙ earlier.1);
      calm = c.in_ok-seal.ensures.calm ∙ before.calm;
      spares = λ told.
          let told1 = before.site.still_told told in
          spares_on IsLogSet d0 d1 d2 (g.met.T.Site.lawful c.loop-self.site told1) (before.spares told)
          (one.spares told1);
      front = λ told.
          fronts_on d0 d1 d2 first.log.gate old.log.gate (before.front told) (before.front_on told)
          (one.front (before.site.still_told told));
      front_on = λ told.
          holds_on d0 d1 d2 first.log.gate old.log.gate new.log.gate (before.front_on told)
          (c.in_ok-seal.ensures.front_on (before.site.still_told told));
      site = continued_both g.T.Site.told g.T.Site.faults g.T.Site.holds g.T.Site.keeps _ _ _ before.site one.site;
    }

pub loop-self-smaller : goal.loop-self-smaller
loop-self-smaller g c =
    let old = c.loop-self.self in
    let some : 1 ≤ length old.owed.items = grind (arith, common_steps) in
    let before = c.loop-self.invariant in
    let less = fewer old c.seal.new.self before.stands.0 c.in_ok-seal.field-0 c.seal.ensures.rules before.stands.1
    (c.in_ok-seal.ensures.turned before.stands.0 before.stands.1) some in
    omega (arith, less)

pub returns-in_err-seal-clause-leaves : goal.returns-in_err-seal-clause-leaves
returns-in_err-seal-clause-leaves g c origin m told at =
    let first = c.args.self.now in
    let old = c.loop-self.self in
    let before = c.loop-self.invariant in
    let some : 1 ≤ length old.owed.items = grind (arith, common_steps) in
    let h = before.at origin m told at in
    let told1 = before.site.still_told told in
    leaves_step origin (rules_in first) m first old (g.T.Site.disk c.args.site.now) (g.T.Site.disk c.loop-self.site)
    (g.T.Site.disk c.seal.new.site) before.rules at.parts some h (g.met.T.Site.lawful c.loop-self.site told1)
    (before.leaves origin m told at)
    (c.seal.ensures.leaves origin (sealed_times h.times (rules_in first) m) told1 h.at)

pub returns-clause-sealed : goal.returns-clause-sealed
returns-clause-sealed g c m s =
    let none : length c.loop-self.self.owed.items ≡ 0 = grind (arith, common_steps) in
    all_sealed (rules_in c.args.self.now) m c.args.self.now c.loop-self.self s (c.loop-self.invariant.sealed m s) none

pub returns-clause-at : goal.returns-clause-at
returns-clause-at g c origin m told at =
    let none : length c.loop-self.self.owed.items ≡ 0 = grind (arith, common_steps) in
    all_at origin (rules_in c.args.self.now) m (g.T.Site.disk c.loop-self.site) c.args.self.now c.loop-self.self
    at.parts (c.loop-self.invariant.at origin m told at) none

pub returns-in_err-seal-clause-spares : goal.returns-in_err-seal-clause-spares
returns-in_err-seal-clause-spares g c told =
    let told1 = c.loop-self.invariant.site.still_told told in
    spares_on IsLogSet (g.T.Site.disk c.args.site.now) (g.T.Site.disk c.loop-self.site) (g.T.Site.disk c.seal.new.site)
    (g.met.T.Site.lawful c.loop-self.site told1) (c.loop-self.invariant.spares told) (c.seal.ensures.spares told1)

pub returns-in_err-seal-clause-front : goal.returns-in_err-seal-clause-front
returns-in_err-seal-clause-front g c told =
    let before = c.loop-self.invariant in
    fronts_on (g.T.Site.disk c.args.site.now) (g.T.Site.disk c.loop-self.site) (g.T.Site.disk c.seal.new.site)
    c.args.self.now.log.gate c.loop-self.self.log.gate (before.front told) (before.front_on told)
    (c.seal.ensures.front (before.site.still_told told))
