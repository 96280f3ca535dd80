use Rattle.std.proofs.Common.{◌≡◌, true, take}
use Rattle.std.specs.List.{list_all}
use Rattle.fp_model.specs.Numbers.{is_digit}
use Rattle.fp_model.specs.Texts.{value}
use Rattle.packed_dec.specs.inside.Halves.{halves}
use Rattle.packed_dec.proofs.reading.digit_pairs.Given as goal

abbrev pub invariant-loop-byte : goal.invariant-loop-byte
invariant-loop-byte l = record {
  digits : list_all is_digit (halves (take l.byte-index l.bytes)) ≡ true;
  so_far : l.n ≡ value 10 (halves (take l.byte-index l.bytes));
}
