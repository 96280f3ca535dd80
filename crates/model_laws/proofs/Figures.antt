-- Digits read from the front: the number that they are, and how large it is.
use Rattle.std.proofs.Common.{◌≡◌, ℕ, ◌+◌, ◌*◌, ◌^◌, ◌-◌, ◌≤◌, ◌<◌, List, [], ◌∷◌, ◌++◌, length, take, map, true, ap, ◌∙◌, arith, rules}
use Rattle.std.proofs.lemmas.List.{length-take, length-map, map_push}
use Rattle.std.proofs.lemmas.Bool.{and_parts}
use Rattle.std.proofs.Math.Nat.{pow-le-pow_right, pow-suc, pow-zero, mul-le-mul_left}
use Rattle.std.specs.Str.{all_ascii_digits}
use Rattle.std.specs.Char.{is_ascii_digit}
use Rattle.fp_model.specs.Texts.{value}
use Rattle.model_laws.proofs.Texts.{value_snoc}

-- what the character of a digit stands for
abbrev pub digit_of : ℕ → ℕ
digit_of c = c - 48

-- one digit more
pub value_digit : (xs : List ℕ) (c : ℕ) → value 10 (map digit_of (xs ++ c ∷ [])) ≡ value 10 (map digit_of xs) * 10 +
    (c - 48)
value_digit xs c = ap (value 10) (map_push digit_of xs c) ∙ value_snoc (map digit_of xs) (c - 48)

-- so many digits are a number below that power of ten
pub digits_below : (ds : List ℕ) → all_ascii_digits ds ≡ true → value 10 (map digit_of ds) < 10 ^ length ds
digits_below [] all = rw (pow-zero 10) (omega arith)
digits_below (c ∷ cs) all =
    let parts = and_parts (is_ascii_digit c) (all_ascii_digits cs) all in
    let h : value 10 (map digit_of cs) < 10 ^ length cs = digits_below cs parts.1 in
    let first : c - 48 + 1 ≤ 10 = grind (arith, rules, parts.0) in
    let m : 10 ^ length cs * (c - 48 + 1) ≤ 10 ^ length cs * 10 = mul-le-mul_left (10 ^ length cs) first in
    rw (length-map cs digit_of, pow-suc 10 (length cs)) (grind (arith, m, h))

-- the digits of a front of at most 31, of which one more stands
pub prefix_below : (xs : List ℕ) (i : ℕ) → length xs ≤ 31 → i < length xs → all_ascii_digits (take i xs) ≡ true
    → value 10 (map digit_of (take i xs)) < 10 ^ 30
prefix_below xs i few lt all =
    let below : value 10 (map digit_of (take i xs)) < 10 ^ length (take i xs) = digits_below (take i xs) all in
    let fits : length (take i xs) ≤ 30 = omega (arith, length-take i xs) in
    let ten : 0 < 10 = omega arith in
    let power : 10 ^ length (take i xs) ≤ 10 ^ 30 = pow-le-pow_right ten fits in
    omega (arith, below, power)

-- and of all of them
pub digits_small : (xs : List ℕ) (i : ℕ) → length xs ≤ 31 → all_ascii_digits (take i xs) ≡ true
    → value 10 (map digit_of (take i xs)) < 2 ^ 127
digits_small xs i few all =
    let below : value 10 (map digit_of (take i xs)) < 10 ^ length (take i xs) = digits_below (take i xs) all in
    let fits : length (take i xs) ≤ 31 = omega (arith, length-take i xs) in
    let ten : 0 < 10 = omega arith in
    let power : 10 ^ length (take i xs) ≤ 10 ^ 31 = pow-le-pow_right ten fits in
    omega (arith, below, power)
