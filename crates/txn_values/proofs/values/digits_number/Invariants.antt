use Rattle.std.proofs.Common.{◌≡◌, ◌-◌, map, take, true}
use Rattle.std.specs.Str.{all_ascii_digits}
use Rattle.fp_model.specs.Texts.{value}
use Rattle.txn_values.proofs.values.digits_number.Given as goal

-- the bytes so far are digits, and n is their number
abbrev pub invariant-loop-digit : goal.invariant-loop-digit
invariant-loop-digit l = record {
  digits : all_ascii_digits (take l.digit-index l.digits) ≡ true;
  so_far : l.n ≡ value 10 (map (λ c. c - 48) (take l.digit-index l.digits));
}
