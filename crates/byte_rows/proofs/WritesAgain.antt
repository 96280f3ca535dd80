-- A number that was read has a form in the same field: the bytes that were read, with the preferred sign.
use Rattle.std.proofs.Common.{◌≡◌, ℕ, zero, suc, ◌+◌, ◌*◌, ◌^◌, ◌/◌, ◌%◌, ◌-◌, ◌<◌, ◌≤◌, true, List, [], ◌∷◌, ◌++◌, length, get_or, refl, sym, ap, subst, ◌∙◌, arith, Some, inl, inr}
use Rattle.std.proofs.lemmas.Bool.{cases_lt, lt-ltb, le-ltb, ltb-true, eqb-true, leb-true, and_parts}
use Rattle.std.proofs.lemmas.Int.{of_z-to_z}
use Rattle.std.proofs.lemmas.List.Folds.{list_all-append}
use Rattle.std.proofs.lemmas.Nat.{be_bytes_2, be_bytes_4}
use Rattle.std.specs.Int.{cast_signed, cast_unsigned, w16, w32, to_be_bytes, from_be_bytes}
use Rattle.std.specs.List.{list_all}
use Rattle.std.specs.Prelude.{ℤ, pos, nat_le, ◌&&◌, ◌||◌, ◌==◌, unsigned_abs}
use Rattle.fp_model.specs.Numbers.{is_digit, is_length_of, pairs, packed, packed_digits, packed_sign, packed_form, packed_of, sign_of, signed_by, big_endian, unsigned_of, fits_twos, number, bytes_of, form_of, number_of}
use Rattle.fp_model.specs.Texts.{value}
use Rattle.fp_model.specs.declared.definitions.FieldKind.{FieldKind}
use Rattle.fp_model.specs.declared.definitions.FieldKind.TheVariants.{C, X, H, F, P}
use Rattle.byte_rows.specs.Preferred.{signed_as, preferred}
use Rattle.packed_dec.specs.inside.Halves.{halves}
use Rattle.packed_dec.proofs.Digits.{value_snoc, value_below, halves_snoc, pair_snoc, digits_at, packed_digits_snoc, length-packed_digits}
use Rattle.plain_laws.proofs.Numbers.{abs_signed as abs_either}
use Rattle.plain_laws.proofs.Lists.{length_snoc}
use Rattle.plain_laws.proofs.Options.{under_test}

-- the last of a list, and those in front of it
record Ending (xs : List ℕ) : Type 0 where
  front : List ℕ
  last : ℕ
  is : xs ≡ front ++ last ∷ []

ending : (x : ℕ) (xs : List ℕ) → Ending (x ∷ xs)
ending x [] = record { front = []; last = x; is = refl }
ending x (y ∷ ys) =
    let rest = ending y ys in
    record { front = x ∷ rest.front; last = rest.last; is = ap (λ (t : List ℕ). x ∷ t) rest.is }

-- the pairs of the digits that bytes are, are these bytes
pair_back : (k : ℕ) (front : List ℕ) (last : ℕ)
    → (list_all is_digit (halves front) ≡ true → pairs k (value 10 (halves front)) ≡ front)
    → list_all is_digit (halves (front ++ last ∷ [])) ≡ true
    → pairs (suc k) (value 10 (halves (front ++ last ∷ []))) ≡ front ++ last ∷ []
pair_back k front last before digits =
    let apart : (list_all is_digit (halves front) && (is_digit (last / 16) && (is_digit (last % 16) && true))) ≡ true =
    sym (ap (list_all is_digit) (halves_snoc front last) ∙ list_all-append is_digit (halves front)
    (last / 16 ∷ last % 16 ∷ [])) ∙ digits in
    let both = and_parts (list_all is_digit (halves front)) (is_digit (last / 16) && (is_digit (last % 16) && true))
    apart in
    let ends = and_parts (is_digit (last / 16)) (is_digit (last % 16) && true) both.1 in
    let low = and_parts (is_digit (last % 16)) true ends.1 in
    let high_digit : last / 16 < 10 = ltb-true (last / 16) 10 ends.0 in
    let low_digit : last % 16 < 10 = ltb-true (last % 16) 10 low.0 in
    let v = value 10 (halves front) in
    let n = v * 100 + last / 16 * 10 + last % 16 in
    let up : n / 100 ≡ v = omega (arith, high_digit, low_digit) in
    let byte : n / 10 % 10 * 16 + n % 10 ≡ last = omega (arith, high_digit, low_digit) in
    rw (pair_snoc front last, up, byte, before both.0) refl

pairs_back : (k : ℕ) (bs : List ℕ) → length bs ≡ k → list_all is_digit (halves bs) ≡ true
    → pairs k (value 10 (halves bs)) ≡ bs
pairs_back zero [] size digits = refl
pairs_back zero (b ∷ bs) size digits = absurd (omega arith)
pairs_back (suc k) [] size digits = absurd (omega arith)
pairs_back (suc k) (b ∷ bs) size digits =
    let e = ending b bs in
    let short : length e.front ≡ k = omega (arith, length_snoc e.front e.last, ap length e.is) in
    let Back : List ℕ → Type 0 = λ t. list_all is_digit (halves t) ≡ true → pairs (suc k) (value 10 (halves t)) ≡ t in
    subst Back (sym e.is) (pair_back k e.front e.last (pairs_back k e.front short)) digits

-- the unsigned bytes of the number that bytes are, are these bytes
byte_back : (k : ℕ) (front : List ℕ) (last : ℕ) → big_endian k (value 256 front) ≡ front → last < 256
    → big_endian (suc k) (value 256 (front ++ last ∷ [])) ≡ front ++ last ∷ []
byte_back k front last before small =
    let v = value 256 front in
    let up : (v * 256 + last) / 256 ≡ v = omega (arith, small) in
    let byte : (v * 256 + last) % 256 ≡ last = omega (arith, small) in
    rw (value_snoc 256 front last, up, byte, before) refl

-- each of some bytes is one
small_front : (front : List ℕ) (last : ℕ) → ((i : ℕ) → get_or (front ++ last ∷ []) i 0 < 256) → (i : ℕ)
    → get_or front i 0 < 256
small_front [] last small i = omega arith
small_front (x ∷ xs) last small zero = small zero
small_front (x ∷ xs) last small (suc i) = small_front xs last (λ j. small (suc j)) i

small_last : (front : List ℕ) (last : ℕ) → ((i : ℕ) → get_or (front ++ last ∷ []) i 0 < 256) → last < 256
small_last [] last small = small 0
small_last (x ∷ xs) last small = small_last xs last (λ j. small (suc j))

bytes_back : (k : ℕ) (bs : List ℕ) → length bs ≡ k → ((i : ℕ) → get_or bs i 0 < 256) → big_endian k (value 256 bs) ≡ bs
bytes_back zero [] size small = refl
bytes_back zero (b ∷ bs) size small = absurd (omega arith)
bytes_back (suc k) [] size small = absurd (omega arith)
bytes_back (suc k) (b ∷ bs) size small =
    let e = ending b bs in
    let short : length e.front ≡ k = omega (arith, length_snoc e.front e.last, ap length e.is) in
    let Back : List ℕ → Type 0 = λ t. ((i : ℕ) → get_or t i 0 < 256) → big_endian (suc k) (value 256 t) ≡ t in
    subst Back (sym e.is) (λ each. byte_back k e.front e.last
    (bytes_back k e.front short (small_front e.front e.last each)) (small_last e.front e.last each)) small

abs_signed : (sign n : ℕ) → unsigned_abs (signed_by sign n) ≡ n
abs_signed sign n = abs_either (sign == 11 || sign == 13) n

-- the sign stands in the last byte alone
signed_as_snoc : (sign : ℕ) (front : List ℕ) (last : ℕ)
    → signed_as sign (front ++ last ∷ []) ≡ front ++ (last / 16 * 16 + sign) ∷ []
signed_as_snoc sign [] last = refl
signed_as_snoc sign (b ∷ []) last = refl
signed_as_snoc sign (b ∷ c ∷ bs) last = ap (λ (t : List ℕ). b ∷ t) (signed_as_snoc sign (c ∷ bs) last)

-- the form of the magnitude that packed bytes are is these bytes, with the sign of the form
form_again : (front : List ℕ) (last u sign : ℕ) → list_all is_digit (packed_digits (front ++ last ∷ [])) ≡ true
    → u ≡ value 10 (packed_digits (front ++ last ∷ []))
    → packed_form (length (front ++ last ∷ [])) u sign ≡ signed_as sign (front ++ last ∷ [])
form_again front last u sign digits is =
    let apart : (list_all is_digit (halves front) && (is_digit (last / 16) && true)) ≡ true =
    sym (ap (list_all is_digit) (packed_digits_snoc front last) ∙ list_all-append is_digit (halves front)
    (last / 16 ∷ [])) ∙ digits in
    let both = and_parts (list_all is_digit (halves front)) (is_digit (last / 16) && true) apart in
    let ends = and_parts (is_digit (last / 16)) true both.1 in
    let digit : last / 16 < 10 = ltb-true (last / 16) 10 ends.0 in
    let whole : u ≡ value 10 (halves front) * 10 + last / 16 =
    is ∙ ap (value 10) (packed_digits_snoc front last) ∙ value_snoc 10 (halves front) (last / 16) in
    let up : u / 10 ≡ value 10 (halves front) = omega (arith, whole, digit) in
    let ones : u % 10 ≡ last / 16 = omega (arith, whole, digit) in
    let size : length (front ++ last ∷ []) - 1 ≡ length front = omega (arith, length_snoc front last) in
    rw (size, up, ones, pairs_back (length front) front refl both.0) (sym (signed_as_snoc sign front last))

again_snoc : (front : List ℕ) (last : ℕ) (n : ℤ) → packed (front ++ last ∷ []) ≡ Some n
    → packed_of (length (front ++ last ∷ [])) n ≡ Some (signed_as (sign_of n) (front ++ last ∷ []))
again_snoc front last n e =
    let text = front ++ last ∷ [] in
    let t = under_test (list_all is_digit (packed_digits text) && nat_le 10 (packed_sign text))
    (Some (signed_by (packed_sign text) (value 10 (packed_digits text)))) n e in
    let both = and_parts (list_all is_digit (packed_digits text)) (nat_le 10 (packed_sign text)) t.0 in
    let number_is : signed_by (packed_sign text) (value 10 (packed_digits text)) ≡ n = cc in
    let size : unsigned_abs n ≡ value 10 (packed_digits text) =
    sym (ap unsigned_abs number_is) ∙ abs_signed (packed_sign text) (value 10 (packed_digits text)) in
    let below : value 10 (packed_digits text) < 10 ^ length (packed_digits text) =
    value_below 10 (packed_digits text) (digits_at (packed_digits text) both.0) in
    let Below : ℕ → Type 0 = λ k. value 10 (packed_digits text) < 10 ^ k in
    let fits : unsigned_abs n < 10 ^ (2 * length text - 1) =
    omega (arith, size, subst Below (length-packed_digits text) below) in
    rw (lt-ltb (unsigned_abs n) (10 ^ (2 * length text - 1)) fits)
    (ap (λ (f : List ℕ). Some f) (form_again front last (unsigned_abs n) (sign_of n) both.0 size))

-- what two or four bytes are fits two's complement
twos_fit_16 : (v : ℕ) → v < 65536 → fits_twos 16 (cast_signed w16 v) ≡ true
twos_fit_16 v below = elim (cases_lt v 32768) [
  | inl low ↦ rw (lt-ltb v 32768 low) (lt-ltb v 32768 low)
  | inr high ↦ rw (le-ltb v 32768 high) (lt-ltb (65536 - suc v) 32768 (omega arith))
]

twos_fit_32 : (v : ℕ) → v < 4294967296 → fits_twos 32 (cast_signed w32 v) ≡ true
twos_fit_32 v below = elim (cases_lt v 2147483648) [
  | inl low ↦ rw (lt-ltb v 2147483648 low) (lt-ltb v 2147483648 low)
  | inr high ↦ rw (le-ltb v 2147483648 high) (lt-ltb (4294967296 - suc v) 2147483648 (omega arith))
]

-- the value of two or four bytes, as the library has it
from_16 : (bs : List ℕ) → length bs ≡ 2 → value 256 bs ≡ from_be_bytes w16 bs
from_16 [] two = absurd (omega arith)
from_16 (a ∷ []) two = absurd (omega arith)
from_16 (a ∷ b ∷ []) two = omega arith
from_16 (a ∷ b ∷ c ∷ bs) two = absurd (omega arith)

from_32 : (bs : List ℕ) → length bs ≡ 4 → value 256 bs ≡ from_be_bytes w32 bs
from_32 [] four = absurd (omega arith)
from_32 (a ∷ []) four = absurd (omega arith)
from_32 (a ∷ b ∷ []) four = absurd (omega arith)
from_32 (a ∷ b ∷ c ∷ []) four = absurd (omega arith)
from_32 (a ∷ b ∷ c ∷ d ∷ []) four = omega arith
from_32 (a ∷ b ∷ c ∷ d ∷ f ∷ bs) four = absurd (omega arith)

-- so many bytes are below that power of 256
below_power : (bs : List ℕ) (k : ℕ) → length bs ≡ k → ((i : ℕ) → get_or bs i 0 < 256) → value 256 bs < 256 ^ k
below_power bs k size small =
    let Below : ℕ → Type 0 = λ j. value 256 bs < 256 ^ j in
    subst Below size (value_below 256 bs (λ i within. small i))

-- each kind of field, written again
unsigned_again : (bs : List ℕ) → ((i : ℕ) → get_or bs i 0 < 256)
    → unsigned_of (length bs) (pos (value 256 bs)) ≡ Some bs
unsigned_again bs small =
    rw (lt-ltb (value 256 bs) (256 ^ length bs) (below_power bs (length bs) refl small))
    (ap (λ (f : List ℕ). Some f) (bytes_back (length bs) bs refl small))

half_again : (bs : List ℕ) → length bs ≡ 2 → ((i : ℕ) → get_or bs i 0 < 256)
    → form_of H 2 (cast_signed w16 (value 256 bs)) ≡ Some bs
half_again bs two small =
    let below : value 256 bs < 65536 = below_power bs 2 two small in
    let same : to_be_bytes w16 (cast_unsigned w16 (cast_signed w16 (value 256 bs))) ≡ bs =
    ap (to_be_bytes w16) (of_z-to_z w16 (value 256 bs) below) ∙ be_bytes_2 bs (value 256 bs) two small (from_16 bs two)
    in
    rw (twos_fit_16 (value 256 bs) below) (ap (λ (f : List ℕ). Some f) same)

full_again : (bs : List ℕ) → length bs ≡ 4 → ((i : ℕ) → get_or bs i 0 < 256)
    → form_of F 4 (cast_signed w32 (value 256 bs)) ≡ Some bs
full_again bs four small =
    let below : value 256 bs < 4294967296 = below_power bs 4 four small in
    let same : to_be_bytes w32 (cast_unsigned w32 (cast_signed w32 (value 256 bs))) ≡ bs =
    ap (to_be_bytes w32) (of_z-to_z w32 (value 256 bs) below) ∙ be_bytes_4 bs (value 256 bs) four small
    (from_32 bs four) in
    rw (twos_fit_32 (value 256 bs) below) (ap (λ (f : List ℕ). Some f) same)

packed_again : (bs : List ℕ) (n : ℤ) → 1 ≤ length bs → packed bs ≡ Some n
    → packed_of (length bs) n ≡ Some (signed_as (sign_of n) bs)
packed_again [] n some = absurd (omega arith)
packed_again (b ∷ bs) n some =
    let e = ending b bs in
    let Again : List ℕ → Type 0 = λ t. packed t ≡ Some n → packed_of (length t) n ≡ Some (signed_as (sign_of n) t) in
    subst Again (sym e.is) (again_snoc e.front e.last n)

pub writes_again : (kind : FieldKind) (bytes : List ℕ) (n : ℤ) → ((i : ℕ) → get_or bytes i 0 < 256)
    → number kind bytes ≡ Some n → bytes_of kind (length bytes) n ≡ Some (preferred kind n bytes)
writes_again C bytes n small e = absurd cc
writes_again X bytes n small e =
    let t = under_test (is_length_of X (length bytes)) (number_of X bytes) n e in
    let number_is : pos (value 256 bytes) ≡ n = cc in
    let Again : ℤ → Type 0 = λ z. unsigned_of (length bytes) z ≡ Some bytes in
    rw t.0 (subst Again number_is (unsigned_again bytes small))
writes_again H bytes n small e =
    let t = under_test (is_length_of H (length bytes)) (number_of H bytes) n e in
    let number_is : cast_signed w16 (value 256 bytes) ≡ n = cc in
    let Again : ℤ → Type 0 = λ z. form_of H 2 z ≡ Some bytes in
    rw t.0 (subst Again number_is (half_again bytes (eqb-true (length bytes) 2 t.0) small))
writes_again F bytes n small e =
    let t = under_test (is_length_of F (length bytes)) (number_of F bytes) n e in
    let number_is : cast_signed w32 (value 256 bytes) ≡ n = cc in
    let Again : ℤ → Type 0 = λ z. form_of F 4 z ≡ Some bytes in
    rw t.0 (subst Again number_is (full_again bytes (eqb-true (length bytes) 4 t.0) small))
writes_again P bytes n small e =
    let t = under_test (is_length_of P (length bytes)) (number_of P bytes) n e in
    let within = and_parts (nat_le 1 (length bytes)) (nat_le (length bytes) 16) t.0 in
    rw t.0 (packed_again bytes n (leb-true 1 (length bytes) within.0) t.1)
