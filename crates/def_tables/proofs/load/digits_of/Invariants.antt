use Rattle.std.proofs.Common.{◌≡◌, ◌-◌, ◌^◌, ◌≤◌, take, drop, map, min}
use Rattle.std.specs.Str.{all_ascii_digits}
use Rattle.fp_model.specs.Texts.{value}
use Rattle.def_tables.proofs.load.digits_of.Given as goal

abbrev pub invariant-loop-byte : goal.invariant-loop-byte
invariant-loop-byte l =
    (l.n ≡ min (value 10 (map (λ c. c - 48) (take l.byte-index l.text))) (10 ^ 31))
    × (all_ascii_digits (drop l.byte-index l.text) ≡ all_ascii_digits l.text)
    × (l.n ≤ 10 ^ 31)
