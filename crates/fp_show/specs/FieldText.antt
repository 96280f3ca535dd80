-- How fields are shown: `FIELD=value`.
use Rattle.std.specs.Prelude.{ℕ, ◌+◌, ◌/◌, ◌%◌, List, [], ◌∷◌, ◌++◌, map, flat_map, if◌then◌else◌, nat_lt, ℤ, Option, Some, None, codes}
use Rattle.fp_model.specs.declared.name.Name.{Name}
use Rattle.fp_model.specs.declared.definitions.FieldDef.{FieldDef}
use Rattle.fp_model.specs.declared.definitions.FieldKind.{FieldKind}
use Rattle.fp_model.specs.Texts.{is_printable, trimmed, decimal_text}
use Rattle.fp_model.specs.Numbers.{number}
use Rattle.fp_model.specs.Fsas.{field_bytes, is_text}

-- a line: a text and a newline
abbrev pub line : List ℕ → List ℕ
line text = text ++ 10 ∷ []

-- a byte as it is shown: a period where it isn't printable
abbrev pub shown_byte : ℕ → ℕ
shown_byte b = if is_printable b then b else 46

abbrev pub shown : List ℕ → List ℕ
shown text = map shown_byte text

-- a hexadecimal digit, in lower case
abbrev pub hex_digit : ℕ → ℕ
hex_digit d = if nat_lt d 10 then 48 + d else 87 + d

-- a byte as two of them
abbrev pub hex_pair : ℕ → List ℕ
hex_pair b = hex_digit (b / 16) ∷ hex_digit (b % 16) ∷ []

abbrev pub hex : List ℕ → List ℕ
hex bytes = flat_map hex_pair bytes

-- a number in decimal; where bytes are none, a question mark and the bytes
abbrev pub number_shown : Option ℤ → List ℕ → List ℕ
number_shown (Some n) bytes = decimal_text n
number_shown None bytes = codes "?" ++ hex bytes

-- what the bytes of a field are shown as: characters without the blanks behind them, any other kind as a number
abbrev pub value_text : FieldKind → List ℕ → List ℕ
value_text kind bytes = if is_text kind then shown (trimmed bytes) else number_shown (number kind bytes) bytes

-- a name without the blanks behind it
abbrev pub name_text : Name → List ℕ
name_text name = trimmed name.0

-- a field of a segment
abbrev pub field_text : List ℕ → FieldDef → List ℕ
field_text segment field = name_text field.name ++ 61 ∷ value_text field.kind (field_bytes field segment)

-- its fields, in order of definition
abbrev pub field_texts : List FieldDef → List ℕ → List (List ℕ)
field_texts fields segment = map (field_text segment) fields
