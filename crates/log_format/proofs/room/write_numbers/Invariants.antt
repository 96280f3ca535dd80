use Rattle.std.proofs.Common.{◌≡◌, ◌+◌, ◌*◌, ◌≤◌, ◌++◌, length, take, vec_capacity, vec_len}
use Rattle.std.specs.List.{flat_map}
use Rattle.fp_model.specs.Spellings.{be32, be64}
use Rattle.log_format.proofs.room.write_numbers.Given as goal

-- what was there, the count, and the numbers so far, each in eight bytes
abbrev pub invariant-loop-number : goal.invariant-loop-number
invariant-loop-number l = record {
  text : l.into.items ≡ l.fn.into.items ++ (be32 (length l.numbers) ++ flat_map be64 (take l.number-index l.items));
  size : vec_len l.into ≡ vec_len l.fn.into + (4 + 8 * l.number-index);
  capacity : vec_capacity l.fn.into ≤ vec_capacity l.into;
}
