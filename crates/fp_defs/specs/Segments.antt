-- The tables of the segment types of a data entry database.
use Rattle.std.specs.Prelude.{ℕ, pos, ◌+◌, ◌*◌, List, [], ◌∷◌, length, map, Bool, true, false, not, ◌&&◌, ◌==◌, if◌then◌else◌, Option, Some, None, unwrap_or, Result, Ok, Err, codes, ⊤}
use Rattle.std.specs.List.{position_from}
use Rattle.std.specs.Option.{option_map_or}
use Rattle.toml.specs.Data.{Data, Members, get_member, as_bool}
use Rattle.fp_model.specs.declared.name.Name.{Name}
use Rattle.fp_model.specs.declared.definitions.SegDef.{SegDef}
use Rattle.fp_model.specs.Texts.{same_text}
use Rattle.fp_model.specs.WellFormed.{stored_length}
use Rattle.def_tables.specs.Readings.{or_fault}
use Rattle.fp_model.specs.Readings.{◌>>=◌}
use Rattle.def_tables.specs.Values.{as_name}
use Rattle.def_tables.specs.Keys.{only, needed, name_at, once, flag_at, within}
use Rattle.def_tables.specs.Fields.{fields_at}
use Rattle.def_tables.specs.declared.fault.DefsFault.{DefsFault}
use Rattle.def_tables.specs.declared.fault.DefsFault.TheVariants.{BadField}
use Rattle.def_tables.specs.declared.keys.Form.TheVariants.{Segment}

abbrev pub segment_names : List SegDef → List (List ℕ)
segment_names defs = map (λ def. def.name.0) defs

-- a name but KEY, that no segment before it has
abbrev pub not_KEY : Name → Result Name DefsFault
not_KEY name = if same_text name.0 (codes "KEY     ") then Err (BadField (codes "name")) else Ok name

unfoldable pub segment_name : List SegDef → Members → Result Name DefsFault
segment_name before members = do
  name ← name_at (codes "name") members
  other ← not_KEY name
  once (segment_names before) other

-- 64 fields of 1,024 bytes: with this limit no segment is too long by itself, since the interval's size decides
abbrev pub no_limit : ℕ
no_limit = 64 * 1024

-- the value true at `sequential`, whatever else stands there
unfoldable pub says_sequential : Members → Bool
says_sequential members = option_map_or (λ value. unwrap_or (as_bool value) false)
    (get_member (codes "sequential") members) false

-- the number of the earlier segment of a name, unless it is the sequential one
abbrev pub place_of : List SegDef → Name → Option ℕ
place_of before name = position_from (λ def. same_text def.name.0 name.0 && not def.sequential) 0 before

-- what may be a parent: no value at the root, elsewhere the name of an earlier segment that isn't sequential
abbrev pub parent_in : List SegDef → Data → Option ℕ
parent_in before value = option_map_or (place_of before) (as_name value) None

unfoldable pub parent_at : List SegDef → Members → Result (Option ℕ) DefsFault
parent_at [] members = option_map_or (λ value. Err (BadField (codes "parent"))) (get_member (codes "parent") members)
    (Ok None)
parent_at (root ∷ before) members = do
  value ← needed (codes "parent") members
  place ← or_fault (BadField (codes "parent")) (parent_in (root ∷ before) value)
  Ok (Some place)

-- the second segment, and below the root
abbrev pub may_be_sequential : List SegDef → Option ℕ → Bool
may_be_sequential before None = false
may_be_sequential before (Some parent) = length before == 1 && parent == 0

abbrev pub at_its_place : List SegDef → Option ℕ → Bool → Result Bool DefsFault
at_its_place before parent false = Ok false
at_its_place before parent true = if may_be_sequential before parent then Ok true else Err
    (BadField (codes "sequential"))

unfoldable pub sequential_at : List SegDef → Option ℕ → Members → Result Bool DefsFault
sequential_at before parent members = do
  sequential ← flag_at (codes "sequential") members
  at_its_place before parent sequential

-- a segment type, behind those of the tables before it
unfoldable pub segment_of : List SegDef → Members → Result SegDef DefsFault
segment_of before members = do
  _ ← only Segment members
  name ← segment_name before members
  layout ← fields_at (not (says_sequential members)) no_limit members
  parent ← parent_at before members
  sequential ← sequential_at before parent members
  Ok (record { name = name; parent = parent; sequential = sequential; fields = layout.fields; length = layout.length })

-- each segment's element, and a sequential one's slot, has room in an empty interval; the segments from a place on in
-- turn
abbrev pub all_fit : ℕ → List SegDef → ℕ → List SegDef → Result ⊤ DefsFault
all_fit room types place [] = Ok tt
all_fit room types place (def ∷ defs) = do
  _ ← within (codes "fields") 0 room (pos (stored_length types place def))
  all_fit room types (place + 1) defs
