-- What a field holds as a number has at most 31 digits.
use Rattle.std.proofs.Common.{◌≡◌, refl, sym, ap, arith, Fits, ℕ, zero, suc, ◌^◌, ◌≤◌, ◌<◌, List, length, get_or, Bool, true, false, ◌&&◌, ◌||◌, if◌then◌else◌, Option, Some, None}
use Rattle.std.specs.Prelude.{◌==◌, nat_le, ℤ, pos, neg_ℤ, unsigned_abs, FitsSigned, IfSome}
use Rattle.std.specs.Int.{w16, w32, w128, cast_signed}
use Rattle.std.specs.List.{list_all}
use Rattle.std.proofs.lemmas.Bool.{and_parts}
use Rattle.std.proofs.lemmas.Bool.Decides.{nat_tests}
use Rattle.std.proofs.lemmas.Int.{ints, fits_signed_from_abs}
use Rattle.std.proofs.Math.Facts.{sfits_to_z}
use Rattle.std.proofs.Math.Nat.{pow-le-pow_right}
use Rattle.fp_model.specs.declared.definitions.FieldKind.{FieldKind}
use Rattle.fp_model.specs.declared.definitions.FieldKind.TheVariants.{C, X, H, F, P}
use Rattle.fp_model.specs.Numbers.{number, number_of, is_length_of, packed, packed_digits, packed_sign, signed_by, is_digit}
use Rattle.fp_model.specs.Texts.{value}
use Rattle.packed_dec.proofs.Digits.{value_below, digits_at, length-packed_digits, tested_some}
use Rattle.plain_laws.proofs.Numbers.{abs_signed}

-- each of them is a byte
abbrev pub AreBytes : List ℕ → Type 0
AreBytes bytes = (i : ℕ) → get_or bytes i 0 < 256

-- a number of at most n bytes
bytes_below : (bytes : List ℕ) (n : ℕ) → AreBytes bytes → length bytes ≤ n → value 256 bytes < 256 ^ n
bytes_below bytes n are few =
    let below : value 256 bytes < 256 ^ length bytes = value_below 256 bytes (λ i lt. are i) in
    let some : 0 < 256 = omega arith in
    let power : 256 ^ length bytes ≤ 256 ^ n = pow-le-pow_right some few in
    omega (arith, below, power)

half_word : (n : ℕ) → n < 256 ^ 2 → unsigned_abs (cast_signed w16 n) < 10 ^ 31
half_word n lt = let within : Fits w16 n = omega (arith, lt) in
    let fits : FitsSigned w16 (cast_signed w16 n) = sfits_to_z {w = w16} {n = n} within in grind (arith, ints, fits)

full_word : (n : ℕ) → n < 256 ^ 4 → unsigned_abs (cast_signed w32 n) < 10 ^ 31
full_word n lt = let within : Fits w32 n = omega (arith, lt) in
    let fits : FitsSigned w32 (cast_signed w32 n) = sfits_to_z {w = w32} {n = n} within in grind (arith, ints, fits)

digits_below : (bytes : List ℕ) → length bytes ≤ 16 → list_all is_digit (packed_digits bytes) ≡ true
    → value 10 (packed_digits bytes) < 10 ^ 31
digits_below bytes few e =
    let below : value 10 (packed_digits bytes) < 10 ^ length (packed_digits bytes) =
    value_below 10 (packed_digits bytes) (digits_at (packed_digits bytes) e) in
    let ten : 0 < 10 = omega arith in
    let short : length (packed_digits bytes) ≤ 31 = omega (arith, length-packed_digits bytes) in
    let power : 10 ^ length (packed_digits bytes) ≤ 10 ^ 31 = pow-le-pow_right ten short in
    omega (arith, below, power)

packed_below : (bytes : List ℕ) (n : ℤ) → length bytes ≤ 16 → packed bytes ≡ Some n → unsigned_abs n < 10 ^ 31
packed_below bytes n few e =
    let is = tested_some (list_all is_digit (packed_digits bytes) && nat_le 10 (packed_sign bytes))
    (signed_by (packed_sign bytes) (value 10 (packed_digits bytes))) n (sym e) in
    let digits = and_parts (list_all is_digit (packed_digits bytes)) (nat_le 10 (packed_sign bytes)) is.0 in
    let below = digits_below bytes few digits.0 in
    let same : unsigned_abs n ≡ value 10 (packed_digits bytes) =
    cc (is.1, abs_signed (packed_sign bytes == 11 || packed_sign bytes == 13) (value 10 (packed_digits bytes))) in
    omega (arith, below, same)

-- what a number says of the test of the length in front of it
of_a_length : (b : Bool) (o : Option ℤ) (n : ℤ) → (if b then o else None) ≡ Some n → (b ≡ true) × (o ≡ Some n)
of_a_length true o n e = (refl, e)
of_a_length false o n e = absurd cc

is_few : (k low most : ℕ) → (nat_le low k && nat_le k most) ≡ true → k ≤ most
is_few k low most e = let h = (and_parts (nat_le low k) (nat_le k most) e).1 in grind (arith, nat_tests, h)

is_exactly : (k n : ℕ) → (k == n) ≡ true → k ≤ n
is_exactly k n e = grind (arith, nat_tests, e)

below_of : (kind : FieldKind) (bytes : List ℕ) (n : ℤ) → AreBytes bytes → is_length_of kind (length bytes) ≡ true
    → number_of kind bytes ≡ Some n → unsigned_abs n < 10 ^ 31
below_of C bytes n are fits e = absurd cc
below_of X bytes n are fits e =
    let below = bytes_below bytes 8 are (is_few (length bytes) 1 8 fits) in
    let is : pos (value 256 bytes) ≡ n = cc e in
    let same : value 256 bytes ≡ unsigned_abs n = ap unsigned_abs is in
    omega (arith, below, same)
below_of H bytes n are fits e =
    let below = half_word (value 256 bytes) (bytes_below bytes 2 are (is_exactly (length bytes) 2 fits)) in
    let is : cast_signed w16 (value 256 bytes) ≡ n = cc e in
    let same : unsigned_abs (cast_signed w16 (value 256 bytes)) ≡ unsigned_abs n = ap unsigned_abs is in
    omega (arith, below, same)
below_of F bytes n are fits e =
    let below = full_word (value 256 bytes) (bytes_below bytes 4 are (is_exactly (length bytes) 4 fits)) in
    let is : cast_signed w32 (value 256 bytes) ≡ n = cc e in
    let same : unsigned_abs (cast_signed w32 (value 256 bytes)) ≡ unsigned_abs n = ap unsigned_abs is in
    omega (arith, below, same)
below_of P bytes n are fits e = packed_below bytes n (is_few (length bytes) 1 16 fits) e

-- such a number fits the type of sums
pub fits_sums : (n : ℤ) → unsigned_abs n < 10 ^ 31 → FitsSigned w128 n
fits_sums n lt = fits_signed_from_abs w128 n (omega (arith, lt))

-- the number of a field
pub number_below : (kind : FieldKind) (bytes : List ℕ) (o : Option ℤ) → AreBytes bytes → o ≡ number kind bytes
    → IfSome o (λ n. unsigned_abs n < 10 ^ 31)
number_below kind bytes None are e = tt
number_below kind bytes (Some n) are e =
    let is = of_a_length (is_length_of kind (length bytes)) (number_of kind bytes) n (sym e) in
    below_of kind bytes n are is.0 is.1
