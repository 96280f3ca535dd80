-- Operands as numbers: the digits read so far, and how large a number of a field or an operand is.
use Rattle.std.proofs.Common.{◌≡◌, refl, ap, ◌∙◌, arith, ℕ, zero, suc, ◌+◌, ◌-◌, ◌*◌, ◌^◌, ◌≤◌, ◌<◌, List, [], ◌∷◌, ◌++◌, length, map, take, get_or, Bool, true, false, ◌&&◌, None}
use Rattle.std.specs.Prelude.{nat_le}
use Rattle.std.specs.Str.{all_ascii_digits}
use Rattle.std.specs.Char.{is_ascii_digit}
use Rattle.std.proofs.lemmas.List.{map-append, length-take}
use Rattle.std.proofs.lemmas.Bool.{and_parts}
use Rattle.std.proofs.lemmas.Bool.Decides.{nat_tests}
use Rattle.std.proofs.Math.Bool.{and-false}
use Rattle.std.proofs.Math.Nat.{pow-le-pow_right}
use Rattle.fp_model.specs.Texts.{value, digits_number}
use Rattle.packed_dec.proofs.Digits.{value_snoc, value_below}

-- what the characters of digits stand for
abbrev pub figures : List ℕ → List ℕ
figures ds = map (λ c. c - 48) ds

pub no_number : (ds : List ℕ) → all_ascii_digits ds ≡ false → None ≡ digits_number ds
no_number ds e = rw (e, and-false (nat_le 1 (length ds) && nat_le (length ds) 31)) refl

digit_below : (d : ℕ) → is_ascii_digit d ≡ true → d - 48 < 10
digit_below d e = grind (arith, nat_tests)

figure_below : (ds : List ℕ) → all_ascii_digits ds ≡ true → (i : ℕ) → i < length (figures ds)
    → get_or (figures ds) i 0 < 10
figure_below [] e i lt = absurd (omega arith)
figure_below (d ∷ ds) e zero lt = digit_below d (and_parts (is_ascii_digit d) (all_ascii_digits ds) e).0
figure_below (d ∷ ds) e (suc i) lt = figure_below ds (and_parts (is_ascii_digit d) (all_ascii_digits ds) e).1 i
    (omega arith)

figures_length : (ds : List ℕ) → length (figures ds) ≡ length ds
figures_length [] = refl
figures_length (d ∷ ds) = ap suc (figures_length ds)

-- the number of the first of at most 31 digits
pub prefix_below : (ds : List ℕ) (i : ℕ) → length ds ≤ 31 → all_ascii_digits (take i ds) ≡ true
    → value 10 (figures (take i ds)) < 10 ^ 31
prefix_below ds i few e =
    let first = take i ds in
    let below : value 10 (figures first) < 10 ^ length (figures first) =
    value_below 10 (figures first) (figure_below first e) in
    let ten : 0 < 10 = omega arith in
    let short : length (figures first) ≤ 31 = omega (arith, figures_length first, length-take i ds) in
    let power : 10 ^ length (figures first) ≤ 10 ^ 31 = pow-le-pow_right ten short in
    omega (arith, below, power)
