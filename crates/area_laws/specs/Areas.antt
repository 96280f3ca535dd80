-- Which areas databases have, and whether these have room for sequential inserts.
use Rattle.std.specs.Prelude.{◌≡◌, ℕ, ◌<◌, List, length, map, true, Some, slice_get}
use Rattle.std.specs.List.{AllByRecursion}
use Rattle.std.specs.Option.{option_map_or}
use Rattle.fp_model.specs.declared.calls.AnchorChange.{AnchorChange}
use Rattle.fp_model.specs.declared.calls.SeqInsert.{SeqInsert}
use Rattle.fp_model.specs.declared.database.Db.{Db}
use Rattle.fp_model.specs.declared.database.Root.{Root}
use Rattle.fp_model.specs.declared.definitions.DedbDef.{DedbDef}
use Rattle.fp_model.specs.Exits.{anchor_of}
use Rattle.fp_model.specs.Order.{root_key}
use Rattle.fp_model.specs.State.{ascend}
use Rattle.area_states.specs.declared.place.Place.{Place}
use Rattle.area_states.specs.Changes.{HasRoom, count_of}
use Rattle.area_states.specs.Databases.{state_of}
use Rattle.area_states.specs.Places.{has_anchor, place_at}

-- how many areas a database has
abbrev pub area_count : Db → ℕ → ℕ
area_count db dedb = option_map_or (λ d. length d.areas) (slice_get db.dedbs dedb) 0

-- the databases have the area of a place
abbrev pub HasArea : Db → Place → Type 0
HasArea db place = place.number < area_count db place.dedb

-- and so they have all of these
abbrev pub HasAreas : Db → List Place → Type 0
HasAreas db places = (set : ℕ) (place : Place) → place_at places set ≡ Some place → HasArea db place

-- the data set is an area with a sequential part
pub record HasPart (places : List Place) (set : ℕ) : Type 0 where
  pub place : Place
  pub is_place : place_at places set ≡ Some place
  pub some : 0 < place.capacity

-- the area has room for all inserts that are of it
abbrev pub TakesAll : Db → List SeqInsert → Place → Type 0
TakesAll db inserts place = 0 < count_of place inserts → HasRoom place (state_of place db) (count_of place inserts)

-- each of these roots has a key that the definition sends to this anchor
abbrev pub AreSentTo : DedbDef → ℕ → List Root → Type 0
AreSentTo def anchor roots = AllByRecursion (λ root. anchor_of def (root_key def.segments root) ≡ anchor) roots

-- the roots that a change brings to an anchor of the area ascend by key
abbrev pub BringsOrder : Place → AnchorChange → Type 0
BringsOrder place c = has_anchor place c.dedb c.anchor ≡ true → ascend (map (root_key place.segments) c.roots) ≡ true
