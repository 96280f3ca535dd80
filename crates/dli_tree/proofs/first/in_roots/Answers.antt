use Rattle.std.proofs.Common.{◌≡◌, ◌∙◌, ◌<◌, ap, sym, get_or, length, arith}
use Rattle.std.specs.Prelude.{option_map}
use Rattle.fp_model.specs.Order.{root_order}
use Rattle.dli_tree.specs.inside.Aims.{aim_of, looks_for}
use Rattle.dli_tree.specs.Paths.{occurrence_of}
use Rattle.dli_tree.proofs.Roots.{root_left, root_shape, roots_ascend}
use Rattle.dli_tree.proofs.Rows.{found_here, found_next, none_from, skipped}
use Rattle.dli_tree.proofs.first.in_roots.Goals as goal

pub loop-at-init : goal.loop-at-init
loop-at-init c order =
    let types = c.args.segments.now in
    let reach = c.roots_in_reach-stretch.ensures in
    let leaves = reach.leaves (roots_ascend types c.args.roots.now order) in
    skipped (looks_for (aim_of c.args.aim)) (root_order types) c.roots_in_reach-stretch.result.from c.args.roots.now
    (omega (arith, reach.within, reach.order))
    (λ i d lt. root_left types (aim_of c.args.aim) (get_or c.args.roots.now i d) (leaves.0 i d (omega arith) lt))

pub returns-in-Some : goal.returns-in-Some
returns-in-Some c order =
    let types = c.args.segments.now in
    let lt : c.loop-at.at < length c.args.roots.now = omega (arith, c.roots_in_reach-stretch.ensures.within) in
    let root = c.index-roots-at.result in
    sym (c.loop-at.invariant order ∙ found_here (looks_for (aim_of c.args.aim)) (root_order types) c.loop-at.at
    c.args.roots.now root (occurrence_of c.in-Some.found) lt c.index-roots-at.is
    (sym (c.in_ok-found.ensures (root_shape types c.args.roots.now c.loop-at.at root order lt c.index-roots-at.is)) ∙ ap
    (option_map occurrence_of) c.in-Some.is))

pub loop-at-preserved : goal.loop-at-preserved
loop-at-preserved c order =
    let types = c.args.segments.now in
    let lt : c.loop-at.at < length c.args.roots.now = omega (arith, c.roots_in_reach-stretch.ensures.within) in
    let root = c.index-roots-at.result in
    c.loop-at.invariant order ∙ found_next (looks_for (aim_of c.args.aim)) (root_order types) c.loop-at.at
    c.args.roots.now root lt c.index-roots-at.is
    (sym (c.in_ok-found.ensures (root_shape types c.args.roots.now c.loop-at.at root order lt c.index-roots-at.is)) ∙ ap
    (option_map occurrence_of) c.in_default.is)

pub returns : goal.returns
returns c order =
    let types = c.args.segments.now in
    let leaves = c.roots_in_reach-stretch.ensures.leaves (roots_ascend types c.args.roots.now order) in
    sym (c.loop-at.invariant order ∙ none_from (looks_for (aim_of c.args.aim)) (root_order types) c.loop-at.at
    c.args.roots.now
    (λ i d low within. root_left types (aim_of c.args.aim) (get_or c.args.roots.now i d)
    (leaves.1 i d (omega (arith, low)) within)))
