-- Packed bytes without their sign: the half bytes, and the number that they are.
use Rattle.std.specs.Prelude.{ℕ, ◌/◌, ◌%◌, List, [], ◌∷◌, ◌&&◌, nat_le, if◌then◌else◌, Option, Some, None}
use Rattle.std.specs.List.{list_all}
use Rattle.fp_model.specs.Texts.{value}
use Rattle.fp_model.specs.Numbers.{packed_digits, packed_sign, is_digit}

-- the half bytes of whole bytes, the high one first
abbrev pub halves : List ℕ → List ℕ
halves [] = []
halves (b ∷ bs) = b / 16 ∷ b % 16 ∷ halves bs

-- the number that whole bytes of digits are, two digits each
abbrev pub pairs_value : List ℕ → Option ℕ
pairs_value bytes = if list_all is_digit (halves bytes) then Some (value 10 (halves bytes)) else None

-- the number that packed bytes are, apart from its sign
abbrev pub magnitude : List ℕ → Option ℕ
magnitude bytes = if list_all is_digit (packed_digits bytes) && nat_le 10 (packed_sign bytes) then Some
    (value 10 (packed_digits bytes)) else None
