use Rattle.std.proofs.Common.{◌∙◌, ◌++◌, sym, ap, subst, arith}
use Rattle.std.proofs.lemmas.List.{append-nil, nil_from_length}
use Rattle.std.proofs.lemmas.Result.{err_from_is_err_and}
use Rattle.ci_space.proofs.Going.{goes-itself}
use Rattle.ci_overflow.proofs.FaultLemmas.{in-order-sound}
use Rattle.root_anchor.specs.Faults.{as_it_is}
use Rattle.root_anchor.specs.inside.Rebuilding.{IsTaking}
use Rattle.root_anchor.proofs.ComingLemmas.{comes-joined, fault-later, fault-now}
use Rattle.root_anchor.proofs.Growing.{same-types}
use Rattle.root_anchor.proofs.Takings.{all-taken, direct-last, kept-on, next-room, none-taken, taken-on}
use Rattle.root_anchor.proofs.taking.take_places.Goals as goal
use Rattle.ci_space.proofs.GoingLemmas.{goes_on_joined}
use Rattle.plain_laws.proofs.Results.{same_fault}

pub loop-planned-init : goal.loop-planned-init
loop-planned-init g c = record {
  number = omega arith;
  goes_on = goes-itself _ _ _ _ _;
  direct = c.requires.direct;
  seen = λ t. c.new-seen.ensures _ _ _;
  comes = λ t elements. as_it_is _;
  kept = λ placed. sym (append-nil c.args.plan.now.items) ∙ ap (λ xs. c.args.plan.now.items ++ xs)
      (sym c.new-taken.ensures.items);
  taking = λ t r. subst (λ xs. IsTaking c.args.home.now.shape.now c.args.home.now.segments.now
      (g.I.Intervals.intervals c.args.i.now) (g.I.Intervals.intervals c.args.i.now) c.args.home.now.anchor
      c.args.plan.now.items c.args.plan.now.items xs) (sym c.new-taken.ensures.items)
      (none-taken _ c.args.home.now.segments.now _ _ c.args.plan.now.items);
}

pub take_place-requires-clause-types : goal.take_place-requires-clause-types
take_place-requires-clause-types g c = same-types _ _ _ c.loop-planned.invariant.goes_on.same_size c.requires.types

pub take_place-requires-clause-direct : goal.take_place-requires-clause-direct
take_place-requires-clause-direct g c = (direct-last c.args.home.now.segments.now c.loop-planned.plan.items
    c.pop_back.new.self.items c.in-Some.planned c.in-Some.ensures.items c.loop-planned.invariant.direct).1

pub loop-planned-preserved : goal.loop-planned-preserved
loop-planned-preserved g c = record {
  number = omega (arith, c.loop-planned.invariant.number, c.take_place.ensures.number);
  goes_on = goes_on_joined _ _ _ _ _ _ _ c.loop-planned.invariant.goes_on c.take_place.ensures.goes_on;
  direct = (direct-last c.args.home.now.segments.now c.loop-planned.plan.items c.pop_back.new.self.items
      c.in-Some.planned c.in-Some.ensures.items c.loop-planned.invariant.direct).0;
  seen = λ t. c.in_ok-at.ensures.seen (c.loop-planned.invariant.goes_on.tells t) (c.loop-planned.invariant.seen t);
  comes = λ t elements. comes-joined _ _ _ _ _ _ (c.loop-planned.invariant.comes t elements)
      (c.in_ok-at.ensures.comes (c.loop-planned.invariant.goes_on.tells t) (c.loop-planned.invariant.seen t) elements);
  kept = λ placed. kept-on c.args.plan.now.items c.loop-planned.plan.items c.pop_back.new.self.items
      c.loop-planned.taken.items c.in-Some.planned c.in_ok-at.at placed (c.loop-planned.invariant.kept placed)
      c.in-Some.ensures.items c.in_ok-at.ensures.planned
      ∙ ap (λ xs. c.pop_back.new.self.items ++ xs) (sym c.in-Ok.ensures.items);
  taking = λ t r.
      let t1 = c.loop-planned.invariant.goes_on.tells t in
      let x = c.loop-planned.invariant.taking t r in
      let room = next-room _ _ _ _ _ _ _ _ _ c.in-Some.planned r x c.in-Some.ensures.items in
      let place = c.in_ok-at.ensures.place t1 (c.loop-planned.invariant.seen t) room in
      subst (λ xs. IsTaking c.args.home.now.shape.now c.args.home.now.segments.now
      (g.I.Intervals.intervals c.args.i.now) (g.I.Intervals.intervals c.take_place.new.i) c.args.home.now.anchor
      c.args.plan.now.items c.pop_back.new.self.items xs) (sym c.in-Ok.ensures.items)
      (taken-on _ _ _ _ _ _ _ _ _ _ c.in-Some.planned c.in_ok-at.at r x c.in-Some.ensures.items place);
}

pub returns-in_err-at-clause-sound : goal.returns-in_err-at-clause-sound
returns-in_err-at-clause-sound g c = λ t o r ci e.
    let p = err_from_is_err_and c.from_residual.result c.from_residual.ensures.1 in
    in-order-sound _ _ ci ((c.loop-planned.invariant.taking t r).takes.exchange.in_order o)
    (c.in_err-at.ensures.damaged (c.loop-planned.invariant.goes_on.tells t) (c.loop-planned.invariant.seen t) ci
    (same_fault _ _ _ _ p.1 p.2 e))

pub returns-in_err-at-clause-lists : goal.returns-in_err-at-clause-lists
returns-in_err-at-clause-lists g c = λ t elements ci e.
    let p = err_from_is_err_and c.from_residual.result c.from_residual.ensures.1 in
    fault-later _ _ _ _ _ ci (c.loop-planned.invariant.comes t elements) (fault-now _ _ elements _ ci
    (c.in_err-at.ensures.damaged (c.loop-planned.invariant.goes_on.tells t) (c.loop-planned.invariant.seen t) ci
    (same_fault _ _ _ _ p.1 p.2 e)))

pub returns-clause-taken : goal.returns-clause-taken
returns-clause-taken g c = λ t r. all-taken _ _ _ _ _ _ _ _
    (nil_from_length c.loop-planned.plan.items (sym c.loop-planned.plan.ok.0 ∙ c.in_default.ensures.cases.0)) (c.loop-planned.invariant.taking t r)

pub returns-clause-kept : goal.returns-clause-kept
returns-clause-kept g c = λ placed.
    let none = nil_from_length c.loop-planned.plan.items (sym c.loop-planned.plan.ok.0 ∙ c.in_default.ensures.cases.0) in
    sym (c.loop-planned.invariant.kept placed ∙ ap (λ xs. xs ++ c.loop-planned.taken.items) none)
