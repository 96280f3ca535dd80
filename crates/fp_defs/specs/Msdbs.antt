-- The table of a main storage database.
use Rattle.std.specs.Prelude.{ℕ, List, map, true, Result, Ok, codes}
use Rattle.toml.specs.Data.{Members}
use Rattle.fp_model.specs.declared.definitions.MsdbDef.{MsdbDef}
use Rattle.fp_model.specs.Readings.{◌>>=◌}
use Rattle.def_tables.specs.Keys.{only, new_name, flag_at}
use Rattle.def_tables.specs.Fields.{fields_at}
use Rattle.def_tables.specs.Loads.{load_at}
use Rattle.def_tables.specs.declared.fault.DefsFault.{DefsFault}
use Rattle.def_tables.specs.declared.keys.Form.TheVariants.{Msdb}

abbrev pub msdb_names : List MsdbDef → List (List ℕ)
msdb_names defs = map (λ def. def.name.0) defs

-- a main storage database, behind those of the tables before it
unfoldable pub msdb_of : List MsdbDef → Members → Result MsdbDef DefsFault
msdb_of before members = do
  _ ← only Msdb members
  name ← new_name (msdb_names before) members
  layout ← fields_at true 1024 members
  dynamic ← flag_at (codes "dynamic") members
  load ← load_at layout.fields members
  Ok (record { name = name; dynamic = dynamic; fields = layout.fields; length = layout.length; load = load })
