-- The form of a number, read again, is that number.
use Rattle.std.proofs.Common.{◌≡◌, ℕ, zero, suc, ◌+◌, ◌*◌, ◌^◌, ◌/◌, ◌%◌, ◌-◌, ◌<◌, ◌≤◌, true, List, length, refl, sym, ap, subst, ◌∙◌, arith, Some, pow-add}
use Rattle.std.proofs.lemmas.Bool.{ltb-true, eqb-true, leb-true, and_parts}
use Rattle.std.proofs.lemmas.Int.{to_z-of_z}
use Rattle.std.proofs.lemmas.Nat.{from_be_bytes-to_be_bytes_2, from_be_bytes-to_be_bytes_4}
use Rattle.std.proofs.Math.Nat.{pow-suc, pow-zero}
use Rattle.std.specs.Int.{cast_signed, cast_unsigned, w16, w32, to_be_bytes}
use Rattle.std.specs.List.{list_all}
use Rattle.std.specs.Prelude.{ℤ, pos, negsuc, nat_lt, unsigned_abs, FitsSigned}
use Rattle.fp_model.specs.Numbers.{is_digit, is_length_of, pairs, packed, packed_form, packed_of, sign_of, signed_by, big_endian, unsigned_of, fits_twos, number, bytes_of, form_of, number_of}
use Rattle.fp_model.specs.Texts.{value}
use Rattle.fp_model.specs.declared.definitions.FieldKind.{FieldKind}
use Rattle.fp_model.specs.declared.definitions.FieldKind.TheVariants.{C, X, H, F, P}
use Rattle.packed_dec.specs.inside.Halves.{halves, pairs_value, magnitude}
use Rattle.packed_dec.proofs.Digits.{value_snoc, digits_snoc, pair_snoc, packed_sign_snoc, good_end, signed_some}
use Rattle.model_laws.proofs.Numerals.{length-big_endian, length-form}
use Rattle.plain_laws.proofs.Options.{under_test}

-- unsigned bytes
value_big_endian : (k n : ℕ) → n < 256 ^ k → value 256 (big_endian k n) ≡ n
value_big_endian zero n below = omega (arith, below, pow-zero 256)
value_big_endian (suc k) n below =
    let rest : n / 256 < 256 ^ k = omega (arith, below, pow-suc 256 k) in
    rw (value_snoc 256 (big_endian k (n / 256)) (n % 256), value_big_endian k (n / 256) rest) (omega arith)

-- pairs are digits, and of a number that fits
digits_of_pairs : (k n : ℕ) → list_all is_digit (halves (pairs k n)) ≡ true
digits_of_pairs zero n = refl
digits_of_pairs (suc k) n =
    digits_snoc (pairs k (n / 100)) (n / 10 % 10 * 16 + n % 10) (digits_of_pairs k (n / 100)) (omega arith)
    (omega arith)

value_pairs : (k n : ℕ) → n < 100 ^ k → value 10 (halves (pairs k n)) ≡ n
value_pairs zero n below = omega (arith, below, pow-zero 100)
value_pairs (suc k) n below =
    let rest : n / 100 < 100 ^ k = omega (arith, below, pow-suc 100 k) in
    rw (pair_snoc (pairs k (n / 100)) (n / 10 % 10 * 16 + n % 10), value_pairs k (n / 100) rest) (omega arith)

-- two digits to a byte
pub hundreds : (k : ℕ) → 10 ^ (2 * k) ≡ 100 ^ k
hundreds zero = refl
hundreds (suc k) =
    let twice : 2 * suc k ≡ 2 * k + 2 = omega arith in
    rw (twice, pow-add 10 (2 * k) 2, hundreds k, pow-suc 100 k) refl

-- all half bytes but one
pub odd_digits : (size : ℕ) → 1 ≤ size → 10 ^ (2 * size - 1) ≡ 100 ^ (size - 1) * 10
odd_digits size some =
    let twice : 2 * size - 1 ≡ 2 * (size - 1) + 1 = omega (arith, some) in
    rw (twice, pow-add 10 (2 * (size - 1)) 1, hundreds (size - 1)) refl

-- the packed form of a magnitude is read as it, with its sign
form_is_number : (size n sign : ℕ) → 1 ≤ size → n < 10 ^ (2 * size - 1) → 10 ≤ sign → sign < 16
    → packed (packed_form size n sign) ≡ Some (signed_by sign n)
form_is_number size n sign some below low high =
    let front = pairs (size - 1) (n / 10) in
    let last = n % 10 * 16 + sign in
    let rest : n / 10 < 100 ^ (size - 1) = omega (arith, below, odd_digits size some) in
    let first : Some (n / 10) ≡ pairs_value front =
    rw (digits_of_pairs (size - 1) (n / 10), value_pairs (size - 1) (n / 10) rest) refl in
    let digit : last / 16 ≡ n % 10 = omega (arith, high) in
    let half : last % 16 ≡ sign = omega (arith, high) in
    let again : n / 10 * 10 + last / 16 ≡ n = omega (arith, digit) in
    let whole = good_end (packed_form size n sign) front last (n / 10) refl first (omega (arith, digit))
    (omega (arith, half, low)) in
    let Reads : ℕ → Type 0 = λ m. Some m ≡ magnitude (packed_form size n sign) in
    let Signed : ℕ → Type 0 = λ s. packed (packed_form size n sign) ≡ Some (signed_by s n) in
    subst Signed (packed_sign_snoc front last ∙ half)
    (sym (signed_some (packed_form size n sign) n (subst Reads again whole)))

-- the preferred sign is that of the number, and one of the six
preferred_sign : (n : ℤ) → signed_by (sign_of n) (unsigned_abs n) ≡ n
preferred_sign (pos n) = refl
preferred_sign (negsuc n) = refl

sign_at_least : (n : ℤ) → 10 ≤ sign_of n
sign_at_least (pos n) = omega arith
sign_at_least (negsuc n) = omega arith

sign_below : (n : ℤ) → sign_of n < 16
sign_below (pos n) = omega arith
sign_below (negsuc n) = omega arith

-- each kind of field, read back
packed_back : (size : ℕ) (n : ℤ) (form : List ℕ) → 1 ≤ size → packed_of size n ≡ Some form → (length form ≡ size)
    × (packed form ≡ Some n)
packed_back size n form some e =
    let t = under_test (nat_lt (unsigned_abs n) (10 ^ (2 * size - 1)))
    (Some (packed_form size (unsigned_abs n) (sign_of n))) form e in
    let same : packed_form size (unsigned_abs n) (sign_of n) ≡ form = cc in
    let below = ltb-true (unsigned_abs n) (10 ^ (2 * size - 1)) t.0 in
    let Back : List ℕ → Type 0 = λ bytes. (length bytes ≡ size) × (packed bytes ≡ Some n) in
    subst Back same (
      length-form size (unsigned_abs n) (sign_of n) some,
      form_is_number size (unsigned_abs n) (sign_of n) some below (sign_at_least n) (sign_below n) ∙ ap (λ z. Some z)
          (preferred_sign n),
    )

unsigned_back : (size : ℕ) (n : ℤ) (form : List ℕ) → unsigned_of size n ≡ Some form → (length form ≡ size)
    × (Some (pos (value 256 form)) ≡ Some n)
unsigned_back size (negsuc n) form e = absurd cc
unsigned_back size (pos n) form e =
    let t = under_test (nat_lt n (256 ^ size)) (Some (big_endian size n)) form e in
    let same : big_endian size n ≡ form = cc in
    let Back : List ℕ → Type 0 = λ bytes. (length bytes ≡ size) × (Some (pos (value 256 bytes)) ≡ Some (pos n)) in
    subst Back same (
      length-big_endian size n,
      ap (λ m. Some (pos m))
          (value_big_endian size n (ltb-true n (256 ^ size) t.0)),
    )

-- two bytes and four bytes of two's complement
fits_16 : (n : ℤ) → fits_twos 16 n ≡ true → FitsSigned w16 n
fits_16 (pos n) e = record { sfits = ltb-true n (2 ^ 15) e }
fits_16 (negsuc n) e = record { sfits = ltb-true n (2 ^ 15) e }

fits_32 : (n : ℤ) → fits_twos 32 n ≡ true → FitsSigned w32 n
fits_32 (pos n) e = record { sfits = ltb-true n (2 ^ 31) e }
fits_32 (negsuc n) e = record { sfits = ltb-true n (2 ^ 31) e }

bits_16 : (n : ℤ) → fits_twos 16 n ≡ true → cast_unsigned w16 n < 2 ^ 16
bits_16 (pos n) e = omega (arith, ltb-true n (2 ^ 15) e)
bits_16 (negsuc n) e = omega (arith, ltb-true n (2 ^ 15) e)

bits_32 : (n : ℤ) → fits_twos 32 n ≡ true → cast_unsigned w32 n < 2 ^ 32
bits_32 (pos n) e = omega (arith, ltb-true n (2 ^ 31) e)
bits_32 (negsuc n) e = omega (arith, ltb-true n (2 ^ 31) e)

-- the bytes of a word as an unsigned number
value_16 : (m : ℕ) → m < 2 ^ 16 → value 256 (to_be_bytes w16 m) ≡ m
value_16 m below = omega (arith, from_be_bytes-to_be_bytes_2 m below)

value_32 : (m : ℕ) → m < 2 ^ 32 → value 256 (to_be_bytes w32 m) ≡ m
value_32 m below = omega (arith, from_be_bytes-to_be_bytes_4 m below)

half_back : (n : ℤ) (form : List ℕ) → form_of H 2 n ≡ Some form → (length form ≡ 2)
    × (Some (cast_signed w16 (value 256 form)) ≡ Some n)
half_back n form e =
    let t = under_test (fits_twos 16 n) (Some (to_be_bytes w16 (cast_unsigned w16 n))) form e in
    let same : to_be_bytes w16 (cast_unsigned w16 n) ≡ form = cc in
    let Back : List ℕ → Type 0 = λ bytes. (length bytes ≡ 2) × (Some (cast_signed w16 (value 256 bytes)) ≡ Some n) in
    let Whole : ℕ → Type 0 = λ m. Some (cast_signed w16 m) ≡ Some n in
    subst Back same (
      refl,
      subst Whole (sym (value_16 (cast_unsigned w16 n) (bits_16 n t.0)))
          (ap (λ z. Some z) (to_z-of_z w16 n (fits_16 n t.0))),
    )

full_back : (n : ℤ) (form : List ℕ) → form_of F 4 n ≡ Some form → (length form ≡ 4)
    × (Some (cast_signed w32 (value 256 form)) ≡ Some n)
full_back n form e =
    let t = under_test (fits_twos 32 n) (Some (to_be_bytes w32 (cast_unsigned w32 n))) form e in
    let same : to_be_bytes w32 (cast_unsigned w32 n) ≡ form = cc in
    let Back : List ℕ → Type 0 = λ bytes. (length bytes ≡ 4) × (Some (cast_signed w32 (value 256 bytes)) ≡ Some n) in
    let Whole : ℕ → Type 0 = λ m. Some (cast_signed w32 m) ≡ Some n in
    subst Back same (
      refl,
      subst Whole (sym (value_32 (cast_unsigned w32 n) (bits_32 n t.0)))
          (ap (λ z. Some z) (to_z-of_z w32 n (fits_32 n t.0))),
    )

-- the length holds of the form, as it holds of the field
of_its_length : (kind : FieldKind) (size : ℕ) (n : ℤ) (form : List ℕ) → is_length_of kind size ≡ true
    → (length form ≡ size) × (number_of kind form ≡ Some n) → (length form ≡ size) × (number kind form ≡ Some n)
of_its_length kind size n form fits back = (back.0, rw (back.0, fits) back.1)

pub reads_back : (kind : FieldKind) (size : ℕ) (n : ℤ) (form : List ℕ) → bytes_of kind size n ≡ Some form
    → (length form ≡ size) × (number kind form ≡ Some n)
reads_back C size n form e = absurd cc
reads_back X size n form e =
    let t = under_test (is_length_of X size) (form_of X size n) form e in
    of_its_length X size n form t.0 (unsigned_back size n form t.1)
reads_back P size n form e =
    let t = under_test (is_length_of P size) (form_of P size n) form e in
    let within = and_parts _ _ t.0 in
    of_its_length P size n form t.0 (packed_back size n form (leb-true 1 size within.0) t.1)
reads_back H size n form e =
    let t = under_test (is_length_of H size) (form_of H size n) form e in
    let two : size ≡ 2 = eqb-true size 2 t.0 in
    let back = half_back n form t.1 in
    of_its_length H size n form t.0 (back.0 ∙ sym two, back.1)
reads_back F size n form e =
    let t = under_test (is_length_of F size) (form_of F size n) form e in
    let four : size ≡ 4 = eqb-true size 4 t.0 in
    let back = full_back n form t.1 in
    of_its_length F size n form t.0 (back.0 ∙ sym four, back.1)
