-- The definitions that a text is, or its first fault.
use Rattle.std.specs.Prelude.{ℕ, pos, List, [], ◌∷◌, length, fold, max, not, ◌==◌, nat_lt, if◌then◌else◌, Option, None, find, Result, Ok, Err, codes, ⊤}
use Rattle.std.specs.List.{list_any}
use Rattle.std.specs.Option.{option_map_or}
use Rattle.std.specs.Str.{is_utf8}
use Rattle.toml.specs.Data.{Data, Items, no_items, item, Members, as_array}
use Rattle.toml.specs.Parse.{parse_document}
use Rattle.fp_model.specs.declared.definitions.MsdbDef.{MsdbDef}
use Rattle.fp_model.specs.declared.definitions.DedbDef.{DedbDef}
use Rattle.fp_model.specs.declared.definitions.Defs.{Defs}
use Rattle.fp_model.specs.State.{numbers_up}
use Rattle.def_tables.specs.Readings.{or_fault, in_turn}
use Rattle.fp_model.specs.Readings.{◌>>=◌}
use Rattle.def_tables.specs.Keys.{only, needed, within, number_within, number_or, exit_at, tables_or_none}
use Rattle.fp_defs.specs.Msdbs.{msdb_of}
use Rattle.fp_defs.specs.Dedbs.{dedb_of}
use Rattle.def_tables.specs.declared.fault.DefsFault.{DefsFault}
use Rattle.def_tables.specs.declared.fault.DefsFault.TheVariants.{NotToml, OutOfLimit, BadField, TooLong}
use Rattle.def_tables.specs.declared.keys.Form.TheVariants.{Top}

-- ---- regions

abbrev pub items_in : Items → List Data
items_in no_items = []
items_in (item first rest) = first ∷ items_in rest

-- a region's group
abbrev pub group_of : List ℕ → Data → Result ℕ DefsFault
group_of before value = number_within (codes "regions") 1 16 value

abbrev pub greatest : List ℕ → ℕ
greatest groups = fold max 0 groups

-- the least number, from 1 to the greatest group, that no region has
abbrev pub missing_group : List ℕ → Option ℕ
missing_group groups = find (λ g. not (list_any (λ h. h == g) groups)) (numbers_up (greatest groups) 1)

-- every group up to the greatest has a region
unfoldable pub no_gap : List ℕ → Result ⊤ DefsFault
no_gap groups = option_map_or (λ g. Err (OutOfLimit (codes "regions") (pos g))) (missing_group groups) (Ok tt)

-- how many regions there are, then each in turn, then the groups that none has
unfoldable pub groups_in : Items → Result (List ℕ) DefsFault
groups_in items = do
  _ ← within (codes "regions") 1 64 (pos (length (items_in items)))
  groups ← in_turn group_of [] (items_in items)
  _ ← no_gap groups
  Ok groups

unfoldable pub regions_at : Members → Result (List ℕ) DefsFault
regions_at members = do
  value ← needed (codes "regions") members
  items ← or_fault (BadField (codes "regions")) (as_array value)
  groups_in items

-- ---- the whole

-- how many databases there are of each sort, and then each in turn
unfoldable pub databases_of : List Members → List Members → Result (List MsdbDef × List DedbDef) DefsFault
databases_of msdb_tables dedb_tables = do
  _ ← within (codes "msdb") 0 32 (pos (length msdb_tables))
  _ ← within (codes "dedb") 0 16 (pos (length dedb_tables))
  msdbs ← in_turn msdb_of [] msdb_tables
  dedbs ← in_turn (dedb_of msdbs) [] dedb_tables
  Ok (msdbs, dedbs)

-- the top table of a text, and then its databases
unfoldable pub defs_in : List ℕ → Members → Result Defs DefsFault
defs_in text members = do
  _ ← only Top members
  regions ← regions_at members
  router ← exit_at (codes "router") members
  log_group ← number_or 100 (codes "log_group") 1 1000 members
  pool ← number_or 1000 (codes "pool") 1 100000 members
  tries ← number_or 0 (codes "tries") 0 100 members
  msdb_tables ← tables_or_none (codes "msdb") members
  dedb_tables ← tables_or_none (codes "dedb") members
  databases ← databases_of msdb_tables dedb_tables
  Ok (record {
    regions = regions;
    router = router;
    log_group = log_group;
    pool = pool;
    tries = tries;
    msdbs = databases.0;
    dedbs = databases.1;
    text = text;
  })

-- the document that a text is: UTF-8, and TOML
unfoldable pub document_of : List ℕ → Option Members
document_of text = if is_utf8 text then parse_document text else None

-- the definitions of a text of at most 1,000,000 bytes
unfoldable pub defs_of : List ℕ → Result Defs DefsFault
defs_of text =
    if nat_lt 1000000 (length text) then Err TooLong
    else (do
      members ← or_fault NotToml (document_of text)
      defs_in text members)
