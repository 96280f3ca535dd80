-- The keys of a table: which it may have, and the value at one.
use Rattle.std.specs.Prelude.{ℕ, ℤ, pos, negsuc, List, [], ◌∷◌, ◌++◌, Bool, false, ◌&&◌, nat_le, if◌then◌else◌, Option, Some, None, Result, Ok, Err, codes, bytes_eq, ⊤}
use Rattle.std.specs.List.{list_any}
use Rattle.std.specs.Option.{option_map_or}
use Rattle.toml.specs.Data.{Data, Members, no_members, member, get_member, as_integer, as_bool}
use Rattle.fp_model.specs.declared.name.Name.{Name}
use Rattle.fp_model.specs.declared.definitions.Kind.{Kind}
use Rattle.fp_model.specs.Texts.{same_text, trimmed}
use Rattle.def_tables.specs.Readings.{or_fault}
use Rattle.fp_model.specs.Readings.{◌>>=◌}
use Rattle.def_tables.specs.Values.{as_name, as_exit, as_tables}
use Rattle.def_tables.specs.declared.fault.DefsFault.{DefsFault}
use Rattle.def_tables.specs.declared.fault.DefsFault.TheVariants.{Missing, Unknown, OutOfLimit, Twice, BadField}
use Rattle.def_tables.specs.declared.keys.Form.{Form}
use Rattle.def_tables.specs.declared.keys.Form.TheVariants.{Top, Msdb, Dedb, Segment, Area}

-- the keys that a table of each form may have, in the order in which they are read
abbrev pub keys_of : Form → List (List ℕ)
keys_of Top = codes "regions" ∷ codes "router" ∷ codes "log_group" ∷ codes "pool" ∷ codes "tries" ∷ codes "msdb" ∷ codes
    "dedb" ∷ []
keys_of Msdb = codes "name" ∷ codes "fields" ∷ codes "dynamic" ∷ codes "load" ∷ []
keys_of Dedb = codes "name" ∷ codes "randomizer" ∷ codes "ci" ∷ codes "segment" ∷ codes "area" ∷ []
keys_of Segment = codes "name" ∷ codes "fields" ∷ codes "parent" ∷ codes "sequential" ∷ []
keys_of Area = codes "name" ∷ codes "uows" ∷ codes "base" ∷ codes "overflow" ∷ codes "capacity" ∷ codes "copies" ∷ []

unfoldable pub has_key : Form → List ℕ → Bool
has_key form key = list_any (bytes_eq key) (keys_of form)

-- the first key that the form lacks; a table's keys ascend, so it is the least
abbrev pub unknown_key : Form → Members → Option (List ℕ)
unknown_key form no_members = None
unknown_key form (member key value rest) = if has_key form key then unknown_key form rest else Some key

-- no key that the form lacks
unfoldable pub only : Form → Members → Result ⊤ DefsFault
only form members = option_map_or (λ key. Err (Unknown key)) (unknown_key form members) (Ok tt)

-- ---- the value at a key

unfoldable pub needed : List ℕ → Members → Result Data DefsFault
needed key members = or_fault (Missing key) (get_member key members)

-- a number from the least to the greatest that are allowed
unfoldable pub within : List ℕ → ℕ → ℕ → ℤ → Result ℕ DefsFault
within key low high (pos n) = if nat_le low n && nat_le n high then Ok n else Err (OutOfLimit key (pos n))
within key low high (negsuc n) = Err (OutOfLimit key (negsuc n))

unfoldable pub number_within : List ℕ → ℕ → ℕ → Data → Result ℕ DefsFault
number_within key low high value = do
  n ← or_fault (BadField key) (as_integer value)
  within key low high n

-- a whole number that the table must have
unfoldable pub number_at : List ℕ → ℕ → ℕ → Members → Result ℕ DefsFault
number_at key low high members = do
  value ← needed key members
  number_within key low high value

-- a whole number that it may have
unfoldable pub number_or : ℕ → List ℕ → ℕ → ℕ → Members → Result ℕ DefsFault
number_or default key low high members = option_map_or (number_within key low high) (get_member key members)
    (Ok default)

-- true or false, and false where the table has no such key
unfoldable pub flag_at : List ℕ → Members → Result Bool DefsFault
flag_at key members = option_map_or (λ value. or_fault (BadField key) (as_bool value)) (get_member key members)
    (Ok false)

unfoldable pub exit_at : List ℕ → Members → Result Kind DefsFault
exit_at key members = do
  value ← needed key members
  or_fault (BadField key) (as_exit value)

unfoldable pub name_at : List ℕ → Members → Result Name DefsFault
name_at key members = do
  value ← needed key members
  or_fault (BadField key) (as_name value)

-- the tables of an array, none where the table has no such key
unfoldable pub tables_or_none : List ℕ → Members → Result (List Members) DefsFault
tables_or_none key members = option_map_or (λ value. or_fault (BadField key) (as_tables value)) (get_member key members)
    (Ok [])

-- the tables of an array that must have one
abbrev pub not_empty : List ℕ → List Members → Result (List Members) DefsFault
not_empty key [] = Err (OutOfLimit key (pos 0))
not_empty key (table ∷ tables) = Ok (table ∷ tables)

unfoldable pub tables_at : List ℕ → Members → Result (List Members) DefsFault
tables_at key members = do
  value ← needed key members
  tables ← or_fault (BadField key) (as_tables value)
  not_empty key tables

-- ---- what stands once

-- a text that occurs among others
abbrev pub occurs : List (List ℕ) → List ℕ → Bool
occurs texts text = list_any (same_text text) texts

-- a name that hasn't occurred before
unfoldable pub once : List (List ℕ) → Name → Result Name DefsFault
once before name = if occurs before name.0 then Err (Twice (trimmed name.0)) else Ok name

-- the first text that occurred before
abbrev pub repeated : List (List ℕ) → List (List ℕ) → Option (List ℕ)
repeated before [] = None
repeated before (text ∷ texts) = if occurs before text then Some text else repeated (before ++ text ∷ []) texts

-- each of these texts stands once; the fault has the text without its trailing blanks
unfoldable pub all_once : List (List ℕ) → Result ⊤ DefsFault
all_once texts = option_map_or (λ text. Err (Twice (trimmed text))) (repeated [] texts) (Ok tt)

-- the name of a table, among those that must differ from it
unfoldable pub new_name : List (List ℕ) → Members → Result Name DefsFault
new_name before members = do
  name ← name_at (codes "name") members
  once before name
