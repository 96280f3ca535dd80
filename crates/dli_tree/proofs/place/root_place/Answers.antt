use Rattle.std.proofs.Common.{◌≡◌, ◌∙◌, ◌<◌, ℕ, ap, sym, true, false, Some, get_or, List, length, arith}
use Rattle.fp_model.specs.declared.database.Node.{out-Node}
use Rattle.fp_model.specs.Order.{key_in, node_key, root_key}
use Rattle.fp_model.specs.Texts.{same_text}
use Rattle.key_order.proofs.Ascending.{differs_there, past_none, stands_there}
use Rattle.dli_tree.proofs.place.root_place.Goals as goal

pub returns-then-at-roots-clause-place : goal.returns-then-at-roots-clause-place
returns-then-at-roots-clause-place c up = (
  c.roots_below-at.ensures.place up,
  past_none (root_key c.args.segments.now) c.args.key.now c.args.roots.now c.roots_below-at.result (omega arith),
)

pub returns-then-eq-clause-place : goal.returns-then-eq-clause-place
returns-then-eq-clause-place c up =
    let x = get_or c.args.roots.now c.roots_below-at.result c.index-roots-at.result in
    let lt : c.roots_below-at.result < length c.args.roots.now = omega (arith, c.roots_below-at.ensures.within) in (
      c.roots_below-at.ensures.place up,
      x,
      stands_there c.args.roots.now c.roots_below-at.result c.index-roots-at.result lt,
      ap (λ (k : List ℕ). same_text k c.args.key.now)
          (sym (c.key_in.ensures ∙ ap (key_in c.args.segments.now 0) c.as_slice.ensures)) ∙ sym c.eq.ensures ∙
          c.if-eq.true,
    )

pub returns-else-eq-clause-place : goal.returns-else-eq-clause-place
returns-else-eq-clause-place c up =
    let x = get_or c.args.roots.now c.roots_below-at.result c.index-roots-at.result in
    let lt : c.roots_below-at.result < length c.args.roots.now = omega (arith, c.roots_below-at.ensures.within) in (
      c.roots_below-at.ensures.place up,
      differs_there (root_key c.args.segments.now) c.args.key.now c.args.roots.now c.roots_below-at.result x
          (stands_there c.args.roots.now c.roots_below-at.result c.index-roots-at.result lt)
          (ap (λ (k : List ℕ). same_text k c.args.key.now)
          (sym (c.key_in.ensures ∙ ap (key_in c.args.segments.now 0) c.as_slice.ensures)) ∙ sym c.eq.ensures ∙
          c.if-eq.false),
    )
