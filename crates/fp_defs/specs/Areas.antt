-- The tables of the areas of a data entry database.
use Rattle.std.specs.Prelude.{ℕ, ℤ, pos, negsuc, zero, suc, List, map, ◌++◌, Bool, true, false, Result, Ok, Err, codes}
use Rattle.std.specs.Option.{option_map_or}
use Rattle.toml.specs.Data.{Members, get_member, as_integer}
use Rattle.fp_model.specs.declared.definitions.AreaDef.{AreaDef}
use Rattle.def_tables.specs.Readings.{or_fault}
use Rattle.fp_model.specs.Readings.{◌>>=◌}
use Rattle.def_tables.specs.Keys.{only, new_name, number_at, within, number_or}
use Rattle.def_tables.specs.declared.fault.DefsFault.{DefsFault}
use Rattle.def_tables.specs.declared.fault.DefsFault.TheVariants.{BadField}
use Rattle.def_tables.specs.declared.keys.Form.TheVariants.{Area}

abbrev pub area_names : List AreaDef → List (List ℕ)
area_names defs = map (λ def. def.name.0) defs

-- 0 where there is no sequential type; with one, anything but 0, within its limits
abbrev pub capacity_in : Bool → ℤ → Result ℕ DefsFault
capacity_in false (pos zero) = Ok 0
capacity_in false (pos (suc n)) = Err (BadField (codes "capacity"))
capacity_in false (negsuc n) = Err (BadField (codes "capacity"))
capacity_in true (pos zero) = Err (BadField (codes "capacity"))
capacity_in true (pos (suc n)) = within (codes "capacity") 1 1000000 (pos (suc n))
capacity_in true (negsuc n) = within (codes "capacity") 1 1000000 (negsuc n)

-- the number at `capacity`, 0 where the table has no such key
unfoldable pub capacity_at : Bool → Members → Result ℕ DefsFault
capacity_at sequential members = do
  n ← option_map_or (λ value. or_fault (BadField (codes "capacity")) (as_integer value))
      (get_member (codes "capacity") members) (Ok (pos 0))
  capacity_in sequential n

-- an area of a database with or without a sequential type, behind the areas of earlier databases and of its own
unfoldable pub area_of : Bool → List (List ℕ) → List AreaDef → Members → Result AreaDef DefsFault
area_of sequential others before members = do
  _ ← only Area members
  name ← new_name (others ++ area_names before) members
  uows ← number_at (codes "uows") 1 65536 members
  base ← number_at (codes "base") 1 1000 members
  overflow ← number_at (codes "overflow") 0 1000 members
  capacity ← capacity_at sequential members
  copies ← number_or 1 (codes "copies") 1 7 members
  Ok (record { name = name; uows = uows; base = base; overflow = overflow; capacity = capacity; copies = copies })
