use Rattle.std.proofs.Common.{◌∙◌, ap, sym, Some, arith}
use Rattle.fp_model.specs.Lasts.{Last}
use Rattle.balancing.specs.Numbered.{as_last, lasts_in}
use Rattle.key_order.specs.Places.{if_same}
use Rattle.key_order.proofs.Ascending.{lacks_there}
use Rattle.balancing.proofs.LastLemmas.{there, past}
use Rattle.balancing.proofs.lasts.place_of.Goals as goal

pub returns-then-at-terminals-clause-place : goal.returns-then-at-terminals-clause-place
returns-then-at-terminals-clause-place c up = (
  c.count_before-at.ensures.place up,
  ap (if_same (λ (last : Last). last.lterm.0) c.args.lterm.now.0)
      (past c.args.terminals.now c.count_before-at.result (omega (arith, c.if-at-terminals.true))),
)

pub returns-then-is_same-clause-place : goal.returns-then-is_same-clause-place
returns-then-is_same-clause-place c up = (
  c.count_before-at.ensures.place up,
  as_last c.deref.result.now,
  there c.args.terminals.now c.count_before-at.result c.index-terminals-at.result
      (omega (arith, c.count_before-at.ensures.within, c.if-at-terminals.false))
      ∙ ap (λ b. Some (as_last b.value)) (sym c.index-terminals-at.is)
      ∙ ap (λ k. Some (as_last k)) (sym c.deref.ensures),
  sym c.if-is_same.ensures,
)

pub returns-else-is_same-clause-place : goal.returns-else-is_same-clause-place
returns-else-is_same-clause-place c up = (
  c.count_before-at.ensures.place up,
  lacks_there (λ (last : Last). last.lterm.0) c.args.lterm.now.0 (lasts_in c.args.terminals.now)
      c.count_before-at.result (as_last c.deref.result.now)
      (there c.args.terminals.now c.count_before-at.result c.index-terminals-at.result
      (omega (arith, c.count_before-at.ensures.within, c.if-at-terminals.false))
      ∙ ap (λ b. Some (as_last b.value)) (sym c.index-terminals-at.is)
      ∙ ap (λ k. Some (as_last k)) (sym c.deref.ensures))
      (sym c.if-is_same.ensures),
)
