-- What a name is: of a database, a segment, a field, an area, a terminal, a transaction.
use Rattle.std.specs.Prelude.{◌≡◌, ℕ, List, length, Bool, ◌&&◌, ◌||◌, nat_le, if◌then◌else◌, slice_index, Option, Some, None, IsTrue}
use Rattle.std.specs.List.{list_all}
use Rattle.fp_model.specs.Texts.{padded}
use Rattle.fp_model.specs.declared.name.Name.{Name}

-- a letter, A to Z
abbrev pub is_letter : ℕ → Bool
is_letter b = nat_le 65 b && nat_le b 90

-- a letter or a digit, 0 to 9
abbrev pub is_letter_or_digit : ℕ → Bool
is_letter_or_digit b = is_letter b || (nat_le 48 b && nat_le b 57)

-- whether a text is a name: 1 to 8 letters and digits, a letter first
abbrev pub is_name : List ℕ → Bool
is_name text =
    nat_le 1 (length text) && nat_le (length text) 8
    && is_letter (slice_index text 0) && list_all is_letter_or_digit text

-- the name that a text is, if it is one: blanks follow up to 8 bytes
abbrev pub name_in : List ℕ → Option Name
name_in text = if is_name text then Some (record { 0 = padded 8 text }) else None

-- a name that some text is
abbrev pub IsName : Name → Type 0
IsName name = (text : List ℕ) × IsTrue (is_name text) × (name.0 ≡ padded 8 text)
