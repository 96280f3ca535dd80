use Rattle.std.proofs.Common.{[], refl, sym, subst, arith}
use Rattle.std.proofs.lemmas.Result.{err_from_is_err_and}
use Rattle.anchor_elements.specs.Reading.{segment_of}
use Rattle.anchor_elements.proofs.ReadLemmas.{refused}
use Rattle.root_anchor.specs.Roots.{RootsAreBroken, base_is_none}
use Rattle.root_anchor.proofs.RootLemmas.{unbroken, broken_here, found_here, fewer_here, reads_on, many_on, fails_on}
use Rattle.root_anchor.proofs.WalkSteps.{looks_joined}
use Rattle.root_anchor.proofs.places.root_place.Goals as goal

pub returns-in_err-first-clause-damaged : goal.returns-in_err-first-clause-damaged
returns-in_err-first-clause-damaged g c = λ t ci e.
    let p = err_from_is_err_and c.from_residual.result c.from_residual.ensures.1 in
    let none = c.root_anchor_point.ensures.no_base t ci (cc (p.1, p.2, c.in_err-first.was)) in
    subst (λ n. RootsAreBroken c.args.shape.now c.args.segments.now (g.I.Intervals.intervals c.args.i.now) c.args.anchor
    n)
    (sym none.0) (base_is_none none.1)

pub returns-in_err-said-clause-damaged : goal.returns-in_err-said-clause-damaged
returns-in_err-said-clause-damaged g c = λ t ci e.
    let p = err_from_is_err_and c.from_residual-in_err-said.result c.from_residual-in_err-said.ensures.1 in
    let mid = c.root_anchor_point.ensures.look.goes_on.tells t in
    let inv = c.loop-alloc.invariant in
    broken_here c.args.shape.now c.args.segments.now _ _ _ c.args.anchor c.base_of-base.result c.loop-alloc.from ci
    c.in_ok-first.first c.loop-alloc.at (c.root_anchor_point.ensures.look.same t) (inv.look.same mid)
    c.base_of-base.ensures (c.in_ok-first.ensures.root t) (c.in_ok-first.ensures.in_place t)
    (refused c.is_nothing.ensures c.loop-alloc-test.true)
    (c.read_element.ensures.wrong (inv.look.goes_on.tells mid) ci (cc (p.1, p.2, c.in_err-said.was)) []) (inv.fails mid)

pub returns-in_err-said-clause-sound : goal.returns-in_err-said-clause-sound
returns-in_err-said-clause-sound g c = λ t has ci e.
    let p = err_from_is_err_and c.from_residual-in_err-said.result c.from_residual-in_err-said.ensures.1 in
    let mid = c.root_anchor_point.ensures.look.goes_on.tells t in
    let inv = c.loop-alloc.invariant in
    unbroken has ci (broken_here c.args.shape.now c.args.segments.now _ _ _ c.args.anchor c.base_of-base.result
    c.loop-alloc.from ci
    c.in_ok-first.first c.loop-alloc.at (c.root_anchor_point.ensures.look.same t) (inv.look.same mid)
    c.base_of-base.ensures (c.in_ok-first.ensures.root t) (c.in_ok-first.ensures.in_place t)
    (refused c.is_nothing.ensures c.loop-alloc-test.true)
    (c.read_element.ensures.wrong (inv.look.goes_on.tells mid) ci (cc (p.1, p.2, c.in_err-said.was)) []) (inv.fails
    mid))

pub returns-then-left-eq0-clause-place : goal.returns-then-left-eq0-clause-place
returns-then-left-eq0-clause-place g c = λ t.
    let mid = c.root_anchor_point.ensures.look.goes_on.tells t in
    let inv = c.loop-alloc.invariant in
    found_here c.args.shape.now c.args.segments.now _ _ _ c.args.anchor c.args.number c.loop-alloc.left
    c.in_ok-first.first c.loop-alloc.at (segment_of c.in_ok-said.said) _ (c.root_anchor_point.ensures.look.same t)
    (inv.look.same mid) (c.in_ok-first.ensures.root t) c.if-left-eq0.true
    (c.in_ok-said.ensures.says (inv.look.goes_on.tells mid)) (inv.reads mid) refl refl refl

pub loop-alloc-preserved : goal.loop-alloc-preserved
loop-alloc-preserved g c =
    let inv = c.loop-alloc.invariant in
    record {
      look = looks_joined _ _ _ _ _ _ _ _ _ inv.look (record {
        same = c.read_element.ensures.same;
        same_number = c.read_element.ensures.number;
        goes_on = c.read_element.ensures.goes_on;
      });
      within = omega (arith, inv.within);
      reads = λ t. reads_on c.args.segments.now _ _ c.in_ok-first.first c.loop-alloc.at c.args.number c.loop-alloc.left
          _
          (segment_of c.in_ok-said.said) (inv.look.same t) (c.in_ok-said.ensures.says (inv.look.goes_on.tells t))
          (omega (arith, c.if-left-eq0.false)) (inv.reads t);
      many = λ t. many_on c.args.segments.now _ _ c.in_ok-first.first c.loop-alloc.at c.args.number c.loop-alloc.left _
          (segment_of c.in_ok-said.said) (inv.look.same t) (c.in_ok-said.ensures.says (inv.look.goes_on.tells t))
          (omega (arith, c.if-left-eq0.false)) inv.within (inv.many t);
      fails = λ t. fails_on c.args.segments.now _ _ c.in_ok-first.first c.loop-alloc.at c.base_of-base.result
          c.loop-alloc.from (segment_of c.in_ok-said.said) (inv.look.same t)
          (c.in_ok-said.ensures.says (inv.look.goes_on.tells t)) (inv.fails t);
    }

pub returns-clause-none : goal.returns-clause-none
returns-clause-none g c = λ t.
    let mid = c.root_anchor_point.ensures.look.goes_on.tells t in
    let inv = c.loop-alloc.invariant in
    fewer_here c.args.shape.now c.args.segments.now _ _ c.args.anchor c.args.number c.loop-alloc.left
    c.in_ok-first.first c.loop-alloc.at (c.root_anchor_point.ensures.look.same t) (c.in_ok-first.ensures.root t)
    (c.is_nothing.ensures.0 c.loop-alloc-test.false) inv.within (inv.many mid)
