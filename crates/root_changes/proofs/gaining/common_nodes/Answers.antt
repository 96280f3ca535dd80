use Rattle.std.proofs.Common.{arith}
use Rattle.root_changes.specs.Differing.{NodesDiffer}
use Rattle.root_changes.proofs.ComparingLemmas.{nodes_apart, node_told}
use Rattle.root_changes.proofs.GainingLemmas.{alike_on, alike_ends, tells_apart}
use Rattle.root_changes.proofs.gaining.common_nodes.Goals as goal

pub returns-in_default : goal.returns-in_default
returns-in_default c =
    let a = c.index-row-place.result in
    let b = c.index-other-place.result in
    alike_ends c.args.row.now c.args.other.now c.loop-place.place a b (omega (arith, c.loop-place-test.true))
    (omega (arith, c.if-place-other.true)) c.index-row-place.is c.index-other-place.is
    (tells_apart NodesDiffer nodes_apart a b c.compare_nodes.result (node_told a b c.compare_nodes.result c.compare_nodes.ensures) c.in_default.not-Nowhere)
    c.loop-place.invariant.alike

pub loop-place-preserved : goal.loop-place-preserved
loop-place-preserved c =
    let a = c.index-row-place.result in
    let b = c.index-other-place.result in
    record {
      within = omega (arith, c.loop-place-test.true);
      within_other = omega (arith, c.if-place-other.true);
      alike = alike_on c.args.row.now c.args.other.now c.loop-place.place a b (omega (arith, c.loop-place-test.true))
          (omega (arith, c.if-place-other.true)) c.index-row-place.is c.index-other-place.is
          ((node_told a b c.compare_nodes.result c.compare_nodes.ensures).nowhere c.in-Nowhere.is) c.loop-place.invariant.alike;
    }
