-- What the bytes of a field are as a number, and the preferred bytes of a number.
use Rattle.std.specs.Prelude.{ℕ, zero, suc, ◌+◌, ◌*◌, ◌^◌, ◌/◌, ◌%◌, ◌-◌, List, [], ◌∷◌, ◌++◌, length, Bool, false, ◌&&◌, ◌||◌, ◌==◌, nat_lt, nat_le, if◌then◌else◌, ℤ, pos, negsuc, neg_ℤ, unsigned_abs, Option, Some, None}
use Rattle.std.specs.List.{list_all}
use Rattle.std.specs.Int.{cast_signed, cast_unsigned, w16, w32, to_be_bytes}
use Rattle.fp_model.specs.Texts.{value}
use Rattle.fp_model.specs.declared.definitions.FieldKind.{FieldKind}
use Rattle.fp_model.specs.declared.definitions.FieldKind.TheVariants.{C, X, H, F, P}

-- the lengths in bytes that numbers of a kind have
abbrev pub is_length_of : FieldKind → ℕ → Bool
is_length_of C n = false
is_length_of X n = nat_le 1 n && nat_le n 8
is_length_of H n = n == 2
is_length_of F n = n == 4
is_length_of P n = nat_le 1 n && nat_le n 16

-- packed decimal: all half bytes but the last are digits
abbrev pub packed_digits : List ℕ → List ℕ
packed_digits [] = []
packed_digits (b ∷ []) = b / 16 ∷ []
packed_digits (b ∷ c ∷ bs) = b / 16 ∷ b % 16 ∷ packed_digits (c ∷ bs)

-- packed decimal: the last half byte is the sign
abbrev pub packed_sign : List ℕ → ℕ
packed_sign [] = 0
packed_sign (b ∷ []) = b % 16
packed_sign (b ∷ c ∷ bs) = packed_sign (c ∷ bs)

-- a half byte that is a decimal digit
abbrev pub is_digit : ℕ → Bool
is_digit d = nat_lt d 10

-- the signs B and D are minus, and A, C, E and F are plus
abbrev pub signed_by : ℕ → ℕ → ℤ
signed_by sign n = if sign == 11 || sign == 13 then neg_ℤ (pos n) else pos n

-- the number that packed bytes are: digits from 0 to 9, and a sign from A to F
abbrev pub packed : List ℕ → Option ℤ
packed bytes =
    if list_all is_digit (packed_digits bytes) && nat_le 10 (packed_sign bytes)
    then Some (signed_by (packed_sign bytes) (value 10 (packed_digits bytes)))
    else None

-- X is unsigned, H and F are two's complement, P is packed decimal, and C is no number
abbrev pub number_of : FieldKind → List ℕ → Option ℤ
number_of C bytes = None
number_of X bytes = Some (pos (value 256 bytes))
number_of H bytes = Some (cast_signed w16 (value 256 bytes))
number_of F bytes = Some (cast_signed w32 (value 256 bytes))
number_of P bytes = packed bytes

-- the number that the bytes of a field are, if they are one
abbrev pub number : FieldKind → List ℕ → Option ℤ
number kind bytes = if is_length_of kind (length bytes) then number_of kind bytes else None

-- so many bytes to the base 256, the greatest first
abbrev pub big_endian : ℕ → ℕ → List ℕ
big_endian zero n = []
big_endian (suc k) n = big_endian k (n / 256) ++ n % 256 ∷ []

-- so many bytes of two decimal digits each, the greatest first
abbrev pub pairs : ℕ → ℕ → List ℕ
pairs zero n = []
pairs (suc k) n = pairs k (n / 100) ++ (n / 10 % 10 * 16 + n % 10) ∷ []

-- the preferred sign: C, and D below 0
abbrev pub sign_of : ℤ → ℕ
sign_of (pos n) = 12
sign_of (negsuc n) = 13

-- pairs of digits, and in the last byte the last digit and the sign
abbrev pub packed_form : ℕ → ℕ → ℕ → List ℕ
packed_form size n sign = pairs (size - 1) (n / 10) ++ (n % 10 * 16 + sign) ∷ []

-- the packed bytes of a number that has fewer digits than the field has half bytes
abbrev pub packed_of : ℕ → ℤ → Option (List ℕ)
packed_of size n =
    if nat_lt (unsigned_abs n) (10 ^ (2 * size - 1)) then Some (packed_form size (unsigned_abs n) (sign_of n)) else None

-- the unsigned bytes of a number from 0 on that fits
abbrev pub unsigned_of : ℕ → ℤ → Option (List ℕ)
unsigned_of size (pos n) = if nat_lt n (256 ^ size) then Some (big_endian size n) else None
unsigned_of size (negsuc n) = None

-- whether a number fits two's complement of so many bits
abbrev pub fits_twos : ℕ → ℤ → Bool
fits_twos bits (pos n) = nat_lt n (2 ^ (bits - 1))
fits_twos bits (negsuc n) = nat_lt n (2 ^ (bits - 1))

-- the bytes of a number in a field of a length that its kind has
abbrev pub form_of : FieldKind → ℕ → ℤ → Option (List ℕ)
form_of C size n = None
form_of X size n = unsigned_of size n
form_of H size n = if fits_twos 16 n then Some (to_be_bytes w16 (cast_unsigned w16 n)) else None
form_of F size n = if fits_twos 32 n then Some (to_be_bytes w32 (cast_unsigned w32 n)) else None
form_of P size n = packed_of size n

-- the preferred form of a number in a field, if it fits
abbrev pub bytes_of : FieldKind → ℕ → ℤ → Option (List ℕ)
bytes_of kind size n = if is_length_of kind size then form_of kind size n else None
