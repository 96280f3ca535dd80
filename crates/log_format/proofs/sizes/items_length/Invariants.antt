use Rattle.std.proofs.Common.{◌≡◌, ◌+◌, take}
use Rattle.std.specs.List.{sum_by}
use Rattle.log_format.specs.inside.Sizes.{item_size}
use Rattle.log_format.proofs.sizes.items_length.Given as goal

-- the count, and the items so far
abbrev pub invariant-loop-item : goal.invariant-loop-item
invariant-loop-item l = l.size ≡ 4 + sum_by item_size (take l.item-index l.item-items)
