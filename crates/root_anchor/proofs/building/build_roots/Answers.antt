use Rattle.std.proofs.Common.{◌≡◌, ◌∙◌, ◌-◌, ℕ, length, get_or, sym, ap, subst, arith}
use Rattle.std.proofs.lemmas.Result.{err_from_is_err_and}
use Rattle.ci_space.proofs.Going.{goes-itself}
use Rattle.root_anchor.proofs.Growing.{roots-none, roots-part, roots-on, roots-whole, RootsDone, same-types}
use Rattle.root_anchor.proofs.TypeLemmas.{roots-root, root-direct}
use Rattle.root_anchor.proofs.building.build_roots.Goals as goal
use Rattle.ci_space.proofs.GoingLemmas.{goes_on_joined}
use Rattle.plain_laws.proofs.Results.{same_fault}

pub loop-left-init : goal.loop-left-init
loop-left-init g c = record {
  within = omega (arith, c.len-left.ensures);
  number = omega arith;
  goes_on = goes-itself _ _ _ _ _;
  done = λ told b u p.
      let P : ℕ → Type 0 = λ k. RootsDone c.args.home.now.shape.now c.args.home.now.segments.now
      (g.I.Intervals.intervals c.args.i.now) (g.I.Intervals.intervals c.args.i.now) c.args.plan.now.items b u
      c.args.roots.now k (0, 0) in
      subst P (sym c.len-left.ensures) (roots-none _ _ _ _ b u _ p);
}

pub build_segment-requires : goal.build_segment-requires
build_segment-requires g c =
    let root = c.index-as_slice-left.result in
    let is = c.index-as_slice-left.is ∙ ap (λ xs. get_or xs (c.loop-left.left - 1) root) c.as_slice.ensures in
    let shape = roots-root c.args.home.now.segments.now c.args.roots.now (c.loop-left.left - 1) root c.requires.roots
    (omega (arith, c.loop-left.invariant.within, c.loop-left-test.true)) is in
    record {
      types = same-types _ _ _ c.loop-left.invariant.goes_on.same_size c.requires.types;
      direct = root-direct _ _ c.requires.types;
      bytes = ap length c.as_slice-in-loop-left.ensures ∙ shape.bytes;
      serial = λ none. c.newest_of.ensures.none c.args.home.now.segments.now shape.seqs none;
      rows = shape.rows;
    }

pub returns-in_err-next-clause-sound : goal.returns-in_err-next-clause-sound
returns-in_err-next-clause-sound g c = λ told b u p ci e.
    let f = err_from_is_err_and c.from_residual.result c.from_residual.ensures.1 in
    let part = roots-part _ _ _ _ _ _ b u _ _ _ _ _ p (c.loop-left.invariant.done told b u p) c.loop-left-test.true
    c.loop-left.invariant.within c.as_slice.ensures c.index-as_slice-left.is in
    c.in_err-next.ensures.sound (c.loop-left.invariant.goes_on.tells told) part.0 part.1 part.2 ci
    (same_fault _ _ _ _ f.1 f.2 e)

pub loop-left-preserved : goal.loop-left-preserved
loop-left-preserved g c =
    let root = c.index-as_slice-left.result in
    let is = c.index-as_slice-left.is ∙ ap (λ xs. get_or xs (c.loop-left.left - 1) root) c.as_slice.ensures in
    let shape = roots-root c.args.home.now.segments.now c.args.roots.now (c.loop-left.left - 1) root c.requires.roots
    (omega (arith, c.loop-left.invariant.within, c.loop-left-test.true)) is in
    record {
      within = omega (arith, c.loop-left.invariant.within);
      number = omega (arith, c.loop-left.invariant.number, c.build_segment.ensures.number);
      goes_on = goes_on_joined _ _ _ _ _ _ _ c.loop-left.invariant.goes_on c.build_segment.ensures.goes_on;
      done = λ told b u p.
          roots-on _ _ _ _ _ _ _ _ b u _ _ _ _ _ _ _ _ p (c.loop-left.invariant.done told b u p) c.loop-left-test.true
          c.loop-left.invariant.within c.as_slice.ensures c.index-as_slice-left.is
          (c.newest_of.ensures.newest c.args.home.now.segments.now shape.seqs) c.as_slice-in-loop-left.ensures
          (c.in_ok-next.ensures.built (c.loop-left.invariant.goes_on.tells told));
    }

pub returns-clause-built : goal.returns-clause-built
returns-clause-built g c = λ told b u p.
    let none : c.loop-left.left ≡ 0 = omega arith in
    let P : ℕ → Type 0 = λ k. RootsDone c.args.home.now.shape.now c.args.home.now.segments.now
    (g.I.Intervals.intervals c.args.i.now) (g.I.Intervals.intervals c.loop-left.i) c.loop-left.plan.items b u
    c.args.roots.now k c.loop-left.next in
    roots-whole _ _ _ _ _ b u _ _ (subst P none (c.loop-left.invariant.done told b u p))
