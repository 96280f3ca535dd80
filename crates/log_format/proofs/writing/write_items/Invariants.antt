use Rattle.std.proofs.Common.{◌≡◌, ◌+◌, ◌≤◌, ◌++◌, length, take, vec_capacity, vec_len}
use Rattle.std.specs.List.{flat_map, sum_by, AllByRecursion}
use Rattle.fp_model.specs.Spellings.{be32}
use Rattle.fp_model.specs.LogText.{IsItem, item_text}
use Rattle.log_format.specs.inside.Sizes.{item_size}
use Rattle.log_format.proofs.writing.write_items.Given as goal

-- what was there, the count, and the items so far, which are items of their types
abbrev pub invariant-loop-item : goal.invariant-loop-item
invariant-loop-item l = record {
  text : l.into.items ≡ l.fn.into.items ++ (be32 (length l.items) ++ flat_map item_text
      (take l.item-index l.item-items));
  read : AllByRecursion IsItem (take l.item-index l.item-items);
  size : vec_len l.into ≡ vec_len l.fn.into + (4 + sum_by item_size (take l.item-index l.item-items));
  capacity : vec_capacity l.fn.into ≤ vec_capacity l.into;
}
