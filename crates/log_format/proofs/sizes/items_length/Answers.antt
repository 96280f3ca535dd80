use Rattle.std.proofs.Common.{take, ap, arith}
use Rattle.std.specs.List.{sum_by}
use Rattle.log_format.specs.inside.Sizes.{item_size}
use Rattle.log_format.proofs.SizeLaws.{some-small}
use Rattle.log_format.proofs.sizes.items_length.Goals as goal

-- so few items have few bytes
pub overflow_add-size : goal.overflow_add-size
overflow_add-size c =
    let i = c.loop-item.item-index in
    omega (
      arith,
      c.loop-item.invariant,
      ap (λ l. sum_by item_size (take i l)) c.as_slice-item-items.ensures,
      some-small c.args.items.now i c.requires.each c.requires.count,
      c.item_length-size.ensures.small,
    )

pub returns-clause-small : goal.returns-clause-small
returns-clause-small c =
    let i = c.loop-item.item-index in
    omega (
      arith,
      c.loop-item.invariant,
      ap (λ l. sum_by item_size (take i l)) c.as_slice-item-items.ensures,
      some-small c.args.items.now i c.requires.each c.requires.count,
    )
