-- The table of a data entry database, with its segments and areas.
use Rattle.std.specs.Prelude.{ℕ, ℤ, pos, negsuc, ◌+◌, ◌-◌, List, [], ◌∷◌, ◌++◌, length, map, max, sum_by, Bool, ◌||◌, ◌==◌, if◌then◌else◌, Result, Ok, Err, codes, flat_map}
use Rattle.toml.specs.Data.{Members, as_integer}
use Rattle.fp_model.specs.declared.name.Name.{Name}
use Rattle.fp_model.specs.declared.definitions.Kind.{Kind}
use Rattle.fp_model.specs.declared.definitions.MsdbDef.{MsdbDef}
use Rattle.fp_model.specs.declared.definitions.SegDef.{SegDef}
use Rattle.fp_model.specs.declared.definitions.DedbDef.{DedbDef}
use Rattle.fp_model.specs.State.{anchor_count}
use Rattle.fp_model.specs.Order.{line_to}
use Rattle.fp_model.specs.WellFormed.{has_sequential, formatted_intervals}
use Rattle.def_tables.specs.Readings.{or_fault, in_turn}
use Rattle.fp_model.specs.Readings.{◌>>=◌}
use Rattle.def_tables.specs.Keys.{only, needed, new_name, exit_at, tables_at, within}
use Rattle.fp_defs.specs.Msdbs.{msdb_names}
use Rattle.fp_defs.specs.Segments.{segment_of, all_fit}
use Rattle.fp_defs.specs.Areas.{area_of, area_names}
use Rattle.def_tables.specs.declared.fault.DefsFault.{DefsFault}
use Rattle.def_tables.specs.declared.fault.DefsFault.TheVariants.{BadField, OutOfLimit}
use Rattle.def_tables.specs.declared.keys.Form.TheVariants.{Dedb}

abbrev pub dedb_names : List DedbDef → List (List ℕ)
dedb_names defs = map (λ def. def.name.0) defs

-- the names of all areas of these databases
abbrev pub areas_named : List DedbDef → List (List ℕ)
areas_named defs = flat_map (λ def. area_names def.areas) defs

-- the sizes that an interval may have
abbrev pub is_interval_size : ℕ → Bool
is_interval_size n = n == 512 || n == 1024 || n == 2048 || n == 4096

abbrev pub size_in : ℤ → Result ℕ DefsFault
size_in (pos n) = if is_interval_size n then Ok n else Err (OutOfLimit (codes "ci") (pos n))
size_in (negsuc n) = Err (OutOfLimit (codes "ci") (negsuc n))

unfoldable pub interval_size_at : Members → Result ℕ DefsFault
interval_size_at members = do
  value ← needed (codes "ci") members
  n ← or_fault (BadField (codes "ci")) (as_integer value)
  size_in n

-- the greatest number of types on a line from the root down, of the types from a place on
abbrev pub depth_from : List SegDef → ℕ → List SegDef → ℕ
depth_from types place [] = 0
depth_from types place (def ∷ defs) = max (length (line_to types place)) (depth_from types (place + 1) defs)

-- the intervals that the areas of these databases are formatted with
abbrev pub intervals_of : List DedbDef → ℕ
intervals_of defs = sum_by (λ def. sum_by (formatted_intervals def) def.areas) defs

-- the end of a table behind its segments' number: levels, areas, anchors, and intervals with those of the databases
-- before it
unfoldable pub ended : List DedbDef → DedbDef → Result DedbDef DefsFault
ended before def = do
  _ ← within (codes "segment") 0 4 (pos (depth_from def.segments 0 def.segments))
  _ ← within (codes "area") 0 16 (pos (length def.areas))
  _ ← within (codes "area") 0 65536 (pos (anchor_count def))
  _ ← within (codes "area") 0 524288 (pos (intervals_of (before ++ def ∷ [])))
  Ok def

-- a data entry database behind its own keys: its segments, what room they need, its areas, and its end
unfoldable pub dedb_behind : List DedbDef → Name → Kind → ℕ → List Members → List Members → Result DedbDef DefsFault
dedb_behind before name randomizer ci segment_tables area_tables = do
  segments ← in_turn segment_of [] segment_tables
  _ ← all_fit (ci - 32) segments 0 segments
  areas ← in_turn (area_of (has_sequential segments) (areas_named before)) [] area_tables
  _ ← within (codes "segment") 0 15 (pos (length segments))
  ended before (record { name = name; randomizer = randomizer; ci = ci; segments = segments; areas = areas })

-- a data entry database, behind those of the tables before it
unfoldable pub dedb_of : List MsdbDef → List DedbDef → Members → Result DedbDef DefsFault
dedb_of msdbs before members = do
  _ ← only Dedb members
  name ← new_name (msdb_names msdbs ++ dedb_names before) members
  randomizer ← exit_at (codes "randomizer") members
  ci ← interval_size_at members
  segment_tables ← tables_at (codes "segment") members
  area_tables ← tables_at (codes "area") members
  dedb_behind before name randomizer ci segment_tables area_tables
