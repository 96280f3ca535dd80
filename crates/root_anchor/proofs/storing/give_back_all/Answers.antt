use Rattle.std.proofs.Common.{◌≡◌, ◌∙◌, Err, refl, ap, arith}
use Rattle.ci_overflow.specs.declared.SpaceFault.TheVariants.{Damaged as SpaceDamaged}
use Rattle.anchor_elements.specs.declared.fault.AnchorFault.TheVariants.{Damaged}
use Rattle.root_anchor.specs.Faults.{as_it_is, given_back}
use Rattle.root_anchor.proofs.ComingLemmas.{fault-now, fault-later}
use Rattle.root_anchor.proofs.Giving.{given-none, given-used, given-on, given-all, part-held}
use Rattle.root_anchor.proofs.storing.give_back_all.Goals as goal
use Rattle.ci_space.proofs.GoingLemmas.{goes_on_joined}

pub returns-in-Err-clause-lists : goal.returns-in-Err-clause-lists
returns-in-Err-clause-lists g c = λ told a anchor ci e.
    let fault : c.fault_of.result ≡ Damaged ci = cc in
    let was : c.in-Err.fault ≡ SpaceDamaged ci = c.fault_of.ensures.damaged ci fault in
    let used = given-used _ _ _ c.args.elements.now c.loop-element.element-index c.element-item.result a
    c.loop-element-test.true c.element-item.is (c.loop-element.invariant.given told a) in
    fault-later _ anchor _ _ _ ci (c.loop-element.invariant.comes told anchor) (fault-now _ anchor _ _ ci
    (c.give_back_seen.ensures.damaged (c.loop-element.invariant.goes_on.tells told) used ci
    (c.in-Err.is ∙ ap Err was)))

pub returns-in-Err-clause-sound : goal.returns-in-Err-clause-sound
returns-in-Err-clause-sound g c = λ told o a ci e.
    let fault : c.fault_of.result ≡ Damaged ci = cc in
    let was : c.in-Err.fault ≡ SpaceDamaged ci = c.fault_of.ensures.damaged ci fault in
    let x = c.loop-element.invariant.given told a in
    let used = given-used _ _ _ c.args.elements.now c.loop-element.element-index c.element-item.result a
    c.loop-element-test.true c.element-item.is x in
    c.give_back_seen.ensures.sound (c.loop-element.invariant.goes_on.tells told) (x.in_order o) used ci
    (c.in-Err.is ∙ ap Err was)

pub loop-element-init : goal.loop-element-init
loop-element-init g c = record {
  number = refl;
  goes_on = record { tells = λ t. t; same_size = refl; later = omega arith; known = λ first k. k };
  given = λ told a. given-none _ _;
  comes = λ told anchor. as_it_is _;
}

pub loop-element-preserved : goal.loop-element-preserved
loop-element-preserved g c = record {
  number = c.give_back_seen.ensures.number ∙ c.loop-element.invariant.number;
  goes_on = goes_on_joined _ _ _ _ _ _ _ c.loop-element.invariant.goes_on c.give_back_seen.ensures.goes_on;
  given = λ told a.
      let now = c.loop-element.invariant.goes_on.tells told in
      given-on _ _ _ _ c.args.elements.now c.loop-element.element-index c.element-item.result a
      c.loop-element-test.true c.element-item.is (c.loop-element.invariant.given told a)
      (c.in-Ok.ensures.takes_back now) (c.in-Ok.ensures.given now) (c.in-Ok.ensures.lists now);
  comes = λ told anchor. given_back _ _ _ c.element-item.result.at (c.loop-element.invariant.comes told anchor)
      (part-held c.args.elements.now c.loop-element.element-index c.element-item.result c.loop-element-test.true
      c.element-item.is) (c.in-Ok.ensures.takes_back (c.loop-element.invariant.goes_on.tells told));
}

pub returns-clause-given : goal.returns-clause-given
returns-clause-given g c = λ told a. given-all _ _ _ c.args.elements.now c.loop-element.element-index (omega arith)
    (c.loop-element.invariant.given told a)
