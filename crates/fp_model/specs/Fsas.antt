-- Field search arguments: as bytes, what each is answered, and what a list of them makes of a segment.
use Rattle.std.specs.Prelude.{ℕ, zero, suc, ◌+◌, ◌*◌, List, [], ◌∷◌, ◌++◌, length, take, drop, Bool, true, false, not, ◌&&◌, ◌||◌, ◌==◌, nat_le, is_none, if◌then◌else◌, Option, Some, None, option_map, option_and_then, find, slice_get, slice_index, ◌≡◌, ◌<◌, ℤ, ◌+ℤ◌, ◌-ℤ◌}
use Rattle.std.specs.List.{list_all}
use Rattle.std.specs.Option.{option_map_or}
use Rattle.std.specs.declared.cmp.Ordering.{Ordering}
use Rattle.std.specs.Ordering.{nat_cmp, int_cmp, is_eq, is_ne, is_lt, is_le, is_gt, is_ge}
use Rattle.std.specs.Cmp.Lexicographic.{slice_cmp}
use Rattle.fp_model.specs.declared.definitions.FieldKind.{FieldKind}
use Rattle.fp_model.specs.declared.definitions.FieldKind.TheVariants.{C, X, H, F, P}
use Rattle.fp_model.specs.declared.definitions.FieldDef.{FieldDef}
use Rattle.fp_model.specs.declared.definitions.MsdbDef.{MsdbDef}
use Rattle.fp_model.specs.Texts.{same_text, padded, number_in}
use Rattle.fp_model.specs.Numbers.{number, bytes_of}
use Rattle.fp_model.specs.Spellings.{long_text}

-- a field search argument: the field's name in 8 bytes, the letter that it was answered, the operation,
-- and its operand as a text
pub record Fsa : Type 0 where
  pub field : List ℕ
  pub status : ℕ
  pub op : ℕ
  pub operand : List ℕ

-- ---- as bytes

-- name, status, operation, and the operand behind its length
abbrev pub fsa_text : Fsa → List ℕ
fsa_text fsa = fsa.field ++ fsa.status ∷ fsa.op ∷ long_text fsa.operand

-- a list: `*` behind each that another follows, a blank behind the last
abbrev pub list_text : List Fsa → List ℕ
list_text [] = []
list_text (fsa ∷ []) = fsa_text fsa ++ 32 ∷ []
list_text (fsa ∷ next ∷ fsas) = fsa_text fsa ++ 42 ∷ list_text (next ∷ fsas)

-- whether it has a spelling: a name of 8 bytes, a byte each for the status and the operation, and an operand that fits
-- its length
pub record IsFsa (fsa : Fsa) : Type 0 where
  pub name : length fsa.field ≡ 8
  pub status_fits : fsa.status < 256
  pub op_fits : fsa.op < 256
  pub operand_fits : length fsa.operand < 65536

-- what bytes read as: a list, or the place of the FSA that they end in, or the place of a bad connector
pub data ListReading : Type 0 where
  Whole : List Fsa → ListReading
  Short : ℕ → ListReading
  BadConnector : ℕ → ListReading

-- the length of the operand of the FSA that the bytes begin with
abbrev pub operand_length : List ℕ → ℕ
operand_length bytes = slice_index bytes 10 * 256 + slice_index bytes 11

-- the FSA that the bytes begin with
abbrev pub fsa_in : List ℕ → Fsa
fsa_in bytes = record {
  field = take 8 bytes;
  status = slice_index bytes 8;
  op = slice_index bytes 9;
  operand = take (operand_length bytes) (drop 12 bytes);
}

-- the connector behind that FSA; None where the bytes end before it
abbrev pub connector_in : List ℕ → Option ℕ
connector_in bytes = slice_get bytes (12 + operand_length bytes)

-- with one more FSA in front
abbrev pub with_fsa : Fsa → ListReading → ListReading
with_fsa fsa (Whole fsas) = Whole (fsa ∷ fsas)
with_fsa fsa (Short place) = Short place
with_fsa fsa (BadConnector place) = BadConnector place

-- a connector at a place, with the bytes behind it and what they read as:
-- a blank one ends the bytes, and a `*` doesn't
abbrev pub joined : ℕ → ℕ → List ℕ → Fsa → ListReading → ListReading
joined place connector [] fsa others = if connector == 32 then Whole (fsa ∷ []) else BadConnector place
joined place connector (b ∷ bs) fsa others = if connector == 42 then with_fsa fsa others else BadConnector place

-- the bytes behind that connector
abbrev pub behind : List ℕ → List ℕ
behind bytes = drop (13 + operand_length bytes) bytes

-- the reading of bytes that begin at a place, of so many FSAs at most
abbrev pub fsas_from : ℕ → ℕ → List ℕ → ListReading
fsas_from zero place bytes = Short place
fsas_from (suc most) place bytes = elim (connector_in bytes) [
  | None ↦ Short place
  | Some connector ↦ joined (place + 12 + operand_length bytes) connector (behind bytes) (fsa_in bytes)
      (fsas_from most (place + 13 + operand_length bytes) (behind bytes))
]

-- what the bytes of a list read as; an FSA has more than one byte
abbrev pub fsas_of : List ℕ → ListReading
fsas_of bytes = fsas_from (length bytes + 1) 0 bytes

-- the list, where the bytes are one
abbrev pub fsas_in : List ℕ → List Fsa
fsas_in bytes = elim (fsas_of bytes) [ Whole fsas ↦ fsas | Short place ↦ [] | BadConnector place ↦ [] ]

-- ---- on one segment

-- the bytes of a field
abbrev pub field_bytes : FieldDef → List ℕ → List ℕ
field_bytes field segment = take field.length (drop field.at segment)

-- with other bytes in a field
abbrev pub with_field : FieldDef → List ℕ → List ℕ → List ℕ
with_field field bytes segment = take field.at segment ++ bytes ++ drop (field.at + length bytes) segment

-- the field of a name
abbrev pub field_of : List FieldDef → List ℕ → Option FieldDef
field_of fields name = find (λ field. same_text field.name.0 name) fields

-- the key field stands first
abbrev pub is_key : FieldDef → Bool
is_key field = field.at == 0

abbrev pub is_text : FieldKind → Bool
is_text C = true
is_text X = false
is_text H = false
is_text F = false
is_text P = false

-- `+` and `-`
abbrev pub is_sum : ℕ → Bool
is_sum op = op == 43 || op == 45

-- `+`, `-` and `=`
abbrev pub is_change : ℕ → Bool
is_change op = is_sum op || op == 61

-- E, G, H, L, M and N
abbrev pub is_verify : ℕ → Bool
is_verify op = op == 69 || op == 71 || op == 72 || op == 76 || op == 77 || op == 78

-- whether a verify holds, by how the field compares with the operand:
-- E equal, G greater, H greater or equal, L less, M less or equal, N not equal
abbrev pub verifies : ℕ → Ordering → Bool
verifies op order =
    op == 69 && is_eq order
    || op == 71 && is_gt order
    || op == 72 && is_ge order
    || op == 76 && is_lt order
    || op == 77 && is_le order
    || op == 78 && is_ne order

-- whether an operand suits a field: at most its length, or a number
abbrev pub suits : FieldDef → List ℕ → Bool
suits field operand =
    if is_text field.kind then nat_le (length operand) field.length else not (is_none (number_in operand))

-- how a field compares with the operand: as bytes padded with blanks, or as numbers
abbrev pub compared : FieldDef → List ℕ → List ℕ → Option Ordering
compared field bytes operand =
    if is_text field.kind
    then Some (slice_cmp nat_cmp bytes (padded field.length operand))
    else option_and_then (λ held. option_map (int_cmp held) (number_in operand)) (number field.kind bytes)

-- a sum
abbrev pub summed : ℕ → ℤ → ℤ → ℤ
summed op held given = if op == 43 then held +ℤ given else held -ℤ given

-- the number that a change gives: the operand, or its sum with what the field holds
abbrev pub new_number : FieldDef → ℕ → List ℕ → List ℕ → Option ℤ
new_number field op bytes operand =
    if op == 61
    then number_in operand
    else option_and_then (λ held. option_map (summed op held) (number_in operand)) (number field.kind bytes)

-- what a field holds after a change; None where that doesn't fit
abbrev pub changed : FieldDef → ℕ → List ℕ → List ℕ → Option (List ℕ)
changed field op bytes operand =
    if is_text field.kind
    then Some (padded field.length operand)
    else option_and_then (bytes_of field.kind field.length) (new_number field op bytes operand)

-- the letter of the first condition that holds, or a blank
abbrev pub first_letter : List (Bool × ℕ) → ℕ
first_letter [] = 32
first_letter (c ∷ cs) = if c.0 then c.1 else first_letter cs

-- the letter for a known operation on a field, its bytes as they are:
-- A a sum on a text, C a change of the key, B a bad operand, E no number there (which `=` doesn't ask),
-- D a verify that is false, G a result that doesn't fit
abbrev pub letter_on : FieldDef → ℕ → List ℕ → List ℕ → ℕ
letter_on field op operand bytes = first_letter (
    (is_sum op && is_text field.kind, 65)
    ∷ (is_change op && is_key field, 67)
    ∷ (not (suits field operand), 66)
    ∷ (not (op == 61) && not (is_text field.kind) && is_none (number field.kind bytes), 69)
    ∷ (is_verify op && not (option_map_or (verifies op) (compared field bytes operand) false), 68)
    ∷ (is_change op && is_none (changed field op bytes operand), 71)
    ∷ [])

-- the letter of an FSA on a segment: A an unknown operation, H no such field, then those above
abbrev pub letter_of : MsdbDef → Fsa → List ℕ → ℕ
letter_of def fsa segment =
    if is_verify fsa.op || is_change fsa.op
    then option_map_or (λ field. letter_on field fsa.op fsa.operand (field_bytes field segment))
    (field_of def.fields fsa.field) 72
    else 65

-- the segment with a change made in a field; one that doesn't fit leaves it
abbrev pub with_change : FieldDef → ℕ → List ℕ → List ℕ → List ℕ
with_change field op operand segment =
    option_map_or (λ bytes. with_field field bytes segment) (changed field op (field_bytes field segment) operand)
    segment

-- the segment with an FSA's change made; a verify leaves it
abbrev pub changed_by : MsdbDef → Fsa → List ℕ → List ℕ
changed_by def fsa segment =
    if is_change fsa.op
    then option_map_or (λ field. with_change field fsa.op fsa.operand segment) (field_of def.fields fsa.field) segment
    else segment

-- an FSA's letter, and the segment behind it
pub record Tested : Type 0 where
  pub letter : ℕ
  pub segment : List ℕ

-- an FSA on a segment: a good change is made, and a bad FSA leaves the segment
abbrev pub fsa_on : MsdbDef → Fsa → List ℕ → Tested
fsa_on def fsa segment = record {
  letter = letter_of def fsa segment;
  segment = if letter_of def fsa segment == 32 then changed_by def fsa segment else segment;
}

-- ---- a list of them

-- a letter for each FSA, and the segment behind the last
pub record Tried : Type 0 where
  pub letters : List ℕ
  pub segment : List ℕ

-- a list on a segment: each FSA meets what those before it left
unfoldable pub list_on : MsdbDef → List Fsa → List ℕ → Tried
list_on def [] segment = record { letters = []; segment = segment }
list_on def (fsa ∷ fsas) segment = let others = list_on def fsas (fsa_on def fsa segment).segment in
    record { letters = letter_of def fsa segment ∷ others.letters; segment = others.segment }

-- whether every FSA is good
abbrev pub all_blank : List ℕ → Bool
all_blank letters = list_all (λ letter. letter == 32) letters

-- the place of a bad FSA, and the bytes of its field as it met them
pub record Failure : Type 0 where
  pub place : ℕ
  pub found : List ℕ

-- the bytes of an FSA's field; none where there is no such field
abbrev pub found_by : MsdbDef → Fsa → List ℕ → List ℕ
found_by def fsa segment = option_map_or (λ field. field_bytes field segment) (field_of def.fields fsa.field) []

-- the first bad FSA of a list whose first has that place
unfoldable pub first_failure : MsdbDef → ℕ → List Fsa → List ℕ → Option Failure
first_failure def place [] segment = None
first_failure def place (fsa ∷ fsas) segment =
    if letter_of def fsa segment == 32
    then first_failure def (place + 1) fsas (fsa_on def fsa segment).segment
    else Some (record { place = place; found = found_by def fsa segment })
