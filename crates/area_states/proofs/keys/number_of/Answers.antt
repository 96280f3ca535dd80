use Rattle.std.proofs.Common.{◌<◌, ◌∙◌, Some, ap, sym, length, arith}
use Rattle.fp_model.specs.Order.{root_key}
use Rattle.key_order.proofs.Ascending.{differs_there, past_none, stands_there}
use Rattle.area_states.proofs.KeyLemmas.{none_of_key}
use Rattle.area_states.proofs.keys.number_of.Goals as goal

pub returns-then-number-roots-clause-none : goal.returns-then-number-roots-clause-none
returns-then-number-roots-clause-none c up =
    none_of_key c.args.segments.now c.args.key.now c.args.roots.now c.roots_below-number.result up
    (c.roots_below-number.ensures.place up)
    (past_none (root_key c.args.segments.now) c.args.key.now c.args.roots.now c.roots_below-number.result (omega arith))

pub returns-then-has_key-clause-found : goal.returns-then-has_key-clause-found
returns-then-has_key-clause-found c =
    let n = c.roots_below-number.result in
    let lt : n < length c.args.roots.now = omega (arith, c.roots_below-number.ensures.within) in
    record {
      root = c.index-roots-number.result;
      is_there = stands_there c.args.roots.now n c.index-roots-number.result lt
          ∙ ap Some (sym c.index-roots-number.is);
      has_key = sym c.has_key.ensures ∙ c.if-has_key.true;
    }

pub returns-else-has_key-clause-none : goal.returns-else-has_key-clause-none
returns-else-has_key-clause-none c up =
    let n = c.roots_below-number.result in
    let lt : n < length c.args.roots.now = omega (arith, c.roots_below-number.ensures.within) in
    let there = stands_there c.args.roots.now n c.index-roots-number.result lt ∙ ap Some (sym c.index-roots-number.is) in
    none_of_key c.args.segments.now c.args.key.now c.args.roots.now n up (c.roots_below-number.ensures.place up)
    (differs_there (root_key c.args.segments.now) c.args.key.now c.args.roots.now n c.index-roots-number.result there
    (sym c.has_key.ensures ∙ c.if-has_key.false))
