-- What a value of a document is in the definitions: a name, an exit, tables, a field, a row of texts.
use Rattle.std.specs.Prelude.{ℕ, ℤ, pos, negsuc, neg_ℤ, ◌-◌, List, [], ◌∷◌, ◌++◌, length, map, Bool, ◌&&◌, ◌||◌, ◌==◌, nat_le, if◌then◌else◌, Option, Some, None, codes}
use Rattle.std.specs.List.{list_all}
use Rattle.std.specs.Option.{option_map}
use Rattle.std.specs.Str.{all_ascii_digits}
use Rattle.toml.specs.Data.{Data, Items, no_items, item, Members, as_str, as_integer, as_array, as_table}
use Rattle.fp_model.specs.declared.name.Name.{Name}
use Rattle.fp_model.specs.declared.definitions.Kind.{Kind}
use Rattle.fp_model.specs.declared.definitions.Kind.TheVariants.{Fold, Range}
use Rattle.fp_model.specs.declared.definitions.FieldKind.{FieldKind}
use Rattle.fp_model.specs.declared.definitions.FieldKind.TheVariants.{C, X, H, F, P}
use Rattle.fp_model.specs.declared.definitions.FieldDef.{FieldDef}
use Rattle.fp_model.specs.Texts.{same_text, is_printable, padded, value}
use Rattle.fp_model.specs.Names.{name_in}
use Rattle.fp_model.specs.Numbers.{bytes_of}
use Rattle.fp_model.specs.WellFormed.{is_field_length}
use Rattle.def_tables.specs.declared.fields.Triple.{Triple}
use Rattle.fp_model.specs.Values.{◌>>=◌}

-- what each item is, where each is something
abbrev pub each : {A : Type 0} → (Data → Option A) → Items → Option (List A)
each what no_items = Some []
each what (item first rest) = do
  x ← what first
  xs ← each what rest
  Some (x ∷ xs)

-- ---- names and exits

unfoldable pub as_name : Data → Option Name
as_name value = do
  text ← as_str value
  name_in text

-- a stored exit, by its name
abbrev pub exit_named : List ℕ → Option Kind
exit_named text = if same_text text (codes "FOLD") then Some Fold else if same_text text (codes "RANGE") then Some Range
    else None

unfoldable pub as_exit : Data → Option Kind
as_exit value = do
  text ← as_str value
  exit_named text

-- ---- tables

unfoldable pub as_tables : Data → Option (List Members)
as_tables value = do
  items ← as_array value
  each as_table items

-- ---- fields

-- the words that scripts give a meaning of their own
abbrev pub is_reserved : Name → Bool
is_reserved name = same_text name.0 (codes "IO      ") || same_text name.0 (codes "STATUS  ") || same_text name.0
    (codes "FSAS    ")

unfoldable pub as_field_name : Data → Option Name
as_field_name value = do
  name ← as_name value
  if is_reserved name then None else Some name

-- a kind, by its letter
abbrev pub kind_named : List ℕ → Option FieldKind
kind_named text =
    if same_text text (codes "C") then Some C
    else if same_text text (codes "X") then Some X
    else if same_text text (codes "H") then Some H
    else if same_text text (codes "F") then Some F
    else if same_text text (codes "P") then Some P
    else None

unfoldable pub as_kind : Data → Option FieldKind
as_kind value = do
  text ← as_str value
  kind_named text

-- a length that a field of a kind may have
abbrev pub length_for : FieldKind → ℤ → Option ℕ
length_for kind (pos n) = if is_field_length kind n then Some n else None
length_for kind (negsuc n) = None

unfoldable pub as_length : FieldKind → Data → Option ℕ
as_length kind value = do
  n ← as_integer value
  length_for kind n

-- three values: a name, a kind, and a length of that kind
abbrev pub triple_in : Items → Option Triple
triple_in (item first (item second (item third no_items))) = do
  name ← as_field_name first
  kind ← as_kind second
  size ← as_length kind third
  Some (record { name = name; kind = kind; length = size })
triple_in items = None

unfoldable pub as_triple : Data → Option Triple
as_triple value = do
  items ← as_array value
  triple_in items

unfoldable pub as_triples : Data → Option (List Triple)
as_triples value = do
  items ← as_array value
  each as_triple items

-- ---- rows that are loaded

-- the number that one or more decimal digits are
abbrev pub digits_of : List ℕ → Option ℕ
digits_of text = if nat_le 1 (length text) && all_ascii_digits text then Some (value 10 (map (λ c. c - 48) text)) else
    None

-- the number that a text is: an optional minus sign, and digits, however many
unfoldable pub number_of_text : List ℕ → Option ℤ
number_of_text [] = None
number_of_text (c ∷ cs) = if c == 45 then option_map (λ n. neg_ℤ (pos n)) (digits_of cs) else option_map pos
    (digits_of (c ∷ cs))

-- the bytes of a number, if it is one, in a field that it fits
abbrev pub bytes_if : FieldKind → ℕ → Option ℤ → Option (List ℕ)
bytes_if kind size None = None
bytes_if kind size (Some n) = bytes_of kind size n

-- the bytes of the number that a text is
abbrev pub number_loaded : FieldKind → ℕ → List ℕ → Option (List ℕ)
number_loaded kind size text = bytes_if kind size (number_of_text text)

-- the bytes of a text in a field: printable characters, and blanks behind them
abbrev pub text_loaded : ℕ → List ℕ → Option (List ℕ)
text_loaded size text = if list_all is_printable text && nat_le (length text) size then Some (padded size text) else
    None

unfoldable pub loaded_as : FieldKind → ℕ → List ℕ → Option (List ℕ)
loaded_as C size text = text_loaded size text
loaded_as X size text = number_loaded X size text
loaded_as H size text = number_loaded H size text
loaded_as F size text = number_loaded F size text
loaded_as P size text = number_loaded P size text

-- the bytes of a field, from its text
unfoldable pub field_in : FieldDef → Data → Option (List ℕ)
field_in field value = do
  text ← as_str value
  loaded_as field.kind field.length text

-- the bytes of a segment: a text for each field
abbrev pub segment_in : List FieldDef → Items → Option (List ℕ)
segment_in [] no_items = Some []
segment_in [] (item first rest) = None
segment_in (field ∷ fields) no_items = None
segment_in (field ∷ fields) (item first rest) = do
  bytes ← field_in field first
  behind ← segment_in fields rest
  Some (bytes ++ behind)

unfoldable pub as_segment : List FieldDef → Data → Option (List ℕ)
as_segment fields value = do
  texts ← as_array value
  segment_in fields texts

unfoldable pub as_segments : List FieldDef → Data → Option (List (List ℕ))
as_segments fields value = do
  rows ← as_array value
  each (as_segment fields) rows
