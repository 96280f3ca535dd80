-- Areas of customers, and the database of two of them.
use Rattle.std.specs.Prelude.{◌≡◌, ℕ, ◌≤◌, ◌<◌, ◌^◌, List, [], ◌∷◌, length, map, true, Some}
use Rattle.std.specs.List.{AllByRecursion}
use Rattle.fp_model.specs.declared.calls.AnchorChange.{AnchorChange}
use Rattle.fp_model.specs.declared.calls.SeqInsert.{SeqInsert}
use Rattle.fp_model.specs.declared.definitions.AreaDef.{AreaDef}
use Rattle.fp_model.specs.declared.definitions.DedbDef.{DedbDef}
use Rattle.fp_model.specs.declared.definitions.Defs.{Defs}
use Rattle.fp_model.specs.declared.definitions.SegDef.{SegDef}
use Rattle.fp_model.specs.declared.log.Item.{Item}
use Rattle.fp_model.specs.declared.log.Item.TheVariants.{Segment, Image, Range}
use Rattle.fp_model.specs.WellFormed.{AreDefs}
use Rattle.root_anchor.specs.Stored.{are_storable}
use Rattle.area_states.specs.declared.place.Place.{Place}
use Rattle.area_states.specs.Changes.{kept_root}
use Rattle.area_states.specs.Places.{place_at, places_of}
use Rattle.area_runs.specs.Types.{AreCustomerTypes}

abbrev pub KeepsNotes : AreaDef → Type 0
KeepsNotes area = 0 < area.capacity

-- a database of customers in two areas
pub record IsBankDedb (d : DedbDef) : Type 0 where
  pub types : AreCustomerTypes d.segments
  pub size : d.ci ≡ 512
  pub two : length d.areas ≡ 2
  pub notes : AllByRecursion KeepsNotes d.areas

-- an area of customers
pub record IsBankArea (place : Place) : Type 0 where
  pub customers : AreCustomerTypes place.segments
  pub some : 0 < place.capacity
  pub size : place.shape.ci ≡ 512

-- the data set is one of these
pub record HasArea (places : List Place) (set : ℕ) : Type 0 where
  pub place : Place
  pub is_place : place_at places set ≡ Some place
  pub area : IsBankArea place

pub record IsBank (defs : Defs) : Type 0 where
  pub defined : AreDefs defs
  pub each : (set : ℕ) (place : Place) → place_at (places_of defs) set ≡ Some place → IsBankArea place
  pub areas : (set : ℕ) → 3 ≤ set → set ≤ 4 → HasArea (places_of defs) set

-- roots that are customers without loans may be stored
abbrev pub HasCustomers : AnchorChange → Type 0
HasCustomers c = (types : List SegDef) → AreCustomerTypes types → are_storable types (map kept_root c.roots) ≡ true

abbrev pub IsNote : SeqInsert → Type 0
IsNote i = length i.bytes ≡ 8

-- places are those of the bank's definitions
abbrev pub HasBank : Defs → List Place → Type 0
HasBank defs places = IsBank defs × (places ≡ places_of defs)

-- an image is of an area, and not too far behind; a range has some bytes
abbrev pub FitsBank : Item → Type 0
FitsBank (Segment msdb key bytes) = ⊥
FitsBank (Image set ci bytes) = (3 ≤ set) × (set ≤ 4) × (length bytes ≡ 512) × (ci < 2 ^ 40)
FitsBank (Range set ci at bytes) = (1 ≤ length bytes) × (length bytes ≤ 512)
