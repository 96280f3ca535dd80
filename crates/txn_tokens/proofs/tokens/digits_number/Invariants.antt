use Rattle.std.proofs.Common.{◌≡◌, ◌-◌, true, take, map}
use Rattle.std.specs.Str.{all_ascii_digits}
use Rattle.fp_model.specs.Texts.{value}
use Rattle.txn_tokens.proofs.tokens.digits_number.Given as goal

abbrev pub invariant-loop-byte : goal.invariant-loop-byte
invariant-loop-byte l = record {
  digits : all_ascii_digits (take l.byte-index l.digits) ≡ true;
  so_far : l.n ≡ value 10 (map (λ c. c - 48) (take l.byte-index l.digits));
}
