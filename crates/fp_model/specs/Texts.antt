-- Bytes as texts: blanks, padding, and numbers as they are written.
use Rattle.std.specs.Prelude.{ℕ, ◌+◌, ◌-◌, ◌*◌, ◌^◌, List, [], ◌∷◌, ◌++◌, length, replicate, map, Bool, ◌&&◌, ◌==◌, nat_le, if◌then◌else◌, Option, Some, None, ℤ, pos, neg_ℤ}
use Rattle.std.specs.Cmp.Lexicographic.{pointwise}
use Rattle.std.specs.Option.{option_map}
use Rattle.std.specs.Str.{all_ascii_digits}
use Rattle.std.specs.Fmt.{signed_decimal}

-- whether two texts are the same, byte by byte
abbrev pub same_text : List ℕ → List ℕ → Bool
same_text a b = pointwise ◌==◌ a b

-- a printable character: 32 to 126
abbrev pub is_printable : ℕ → Bool
is_printable b = nat_le 32 b && nat_le b 126

-- a byte in front of a text without trailing blanks, unless it would be one
abbrev pub in_front : ℕ → List ℕ → List ℕ
in_front b [] = if b == 32 then [] else b ∷ []
in_front b (c ∷ cs) = b ∷ c ∷ cs

-- without trailing blanks
abbrev pub trimmed : List ℕ → List ℕ
trimmed [] = []
trimmed (b ∷ bs) = in_front b (trimmed bs)

-- with blanks behind it, up to so many bytes
abbrev pub padded : ℕ → List ℕ → List ℕ
padded n text = text ++ replicate (n - length text) 32

-- the sum of digits times powers of the base, the first digit being the greatest
abbrev pub value : ℕ → List ℕ → ℕ
value base [] = 0
value base (d ∷ ds) = d * base ^ length ds + value base ds

-- the number that 1 to 31 decimal digits are
abbrev pub digits_number : List ℕ → Option ℕ
digits_number ds =
    if nat_le 1 (length ds) && nat_le (length ds) 31 && all_ascii_digits ds
    then Some (value 10 (map (λ c. c - 48) ds))
    else None

-- the number that a text is: an optional minus sign and 1 to 31 digits
abbrev pub number_in : List ℕ → Option ℤ
number_in [] = None
number_in (c ∷ cs) =
    if c == 45 then option_map (λ n. neg_ℤ (pos n)) (digits_number cs) else option_map pos (digits_number (c ∷ cs))

-- canonical decimal: no leading zeros, and a minus sign only below 0
abbrev pub decimal_text : ℤ → List ℕ
decimal_text n = signed_decimal n
