use Rattle.std.proofs.Common.{arith}
use Rattle.root_changes.specs.Differing.{RootDiffers}
use Rattle.root_changes.proofs.ComparingLemmas.{roots_apart, other_lengths, told_next, all_told, root_told, inside}
use Rattle.root_changes.proofs.differing.compare_roots.Goals as goal

pub returns-then-roots-others-clause-tells : goal.returns-then-roots-others-clause-tells
returns-then-roots-others-clause-tells c =
    other_lengths RootDiffers c.args.roots.now c.args.others.now (λ e. absurd (omega (arith, e, c.if-roots-others.true)))

pub loop-place-preserved : goal.loop-place-preserved
loop-place-preserved c =
    let a = c.index-roots-place.result in
    let b = c.index-others-place.result in
    let k = c.loop-place.place in
    record {
      within = omega (arith, c.loop-place-test.true);
      told = told_next RootDiffers roots_apart c.args.roots.now c.args.others.now k a b c.loop-place.so_far
          c.compare_root-item.result _ (omega (arith, c.if-roots-others.false)) (omega (arith, c.loop-place-test.true))
          c.index-roots-place.is c.index-others-place.is c.joined-so_far.ensures c.loop-place.invariant.told
          (root_told a b _ c.compare_root-item.ensures);
    }

pub returns-clause-tells : goal.returns-clause-tells
returns-clause-tells c = all_told RootDiffers c.args.roots.now c.args.others.now c.loop-place.place c.loop-place.so_far
    (omega (arith, c.loop-place-test.false)) (omega (arith, c.loop-place-test.false, c.if-roots-others.false))
    c.loop-place.invariant.told

pub returns-clause-inside : goal.returns-clause-inside
returns-clause-inside c = λ k e. inside RootDiffers c.args.roots.now c.args.others.now k
    ((all_told RootDiffers c.args.roots.now c.args.others.now c.loop-place.place c.loop-place.so_far
    (omega (arith, c.loop-place-test.false)) (omega (arith, c.loop-place-test.false, c.if-roots-others.false))
    c.loop-place.invariant.told).place k e)
