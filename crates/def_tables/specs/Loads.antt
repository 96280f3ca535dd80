-- The segments that a table loads.
use Rattle.std.specs.Prelude.{ℕ, List, [], map, Result, Ok, codes}
use Rattle.std.specs.Option.{option_map_or}
use Rattle.toml.specs.Data.{Data, Members, get_member}
use Rattle.fp_model.specs.declared.definitions.FieldDef.{FieldDef}
use Rattle.fp_model.specs.State.{key_of}
use Rattle.def_tables.specs.Readings.{or_fault}
use Rattle.fp_model.specs.Readings.{◌>>=◌}
use Rattle.def_tables.specs.Values.{as_segments}
use Rattle.def_tables.specs.Keys.{all_once}
use Rattle.def_tables.specs.declared.fault.DefsFault.{DefsFault}
use Rattle.def_tables.specs.declared.fault.DefsFault.TheVariants.{BadField}

-- rows of one text for each field, with keys that differ
unfoldable pub load_in : List FieldDef → Data → Result (List (List ℕ)) DefsFault
load_in fields value = do
  segments ← or_fault (BadField (codes "load")) (as_segments fields value)
  _ ← all_once (map (key_of fields) segments)
  Ok segments

unfoldable pub load_at : List FieldDef → Members → Result (List (List ℕ)) DefsFault
load_at fields members = option_map_or (load_in fields) (get_member (codes "load") members) (Ok [])
