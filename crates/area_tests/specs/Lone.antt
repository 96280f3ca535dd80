-- An area of customers that stands alone.
use Rattle.std.specs.Prelude.{◌≡◌}
use Rattle.anchor_elements.specs.Elements.{AreTypes}
use Rattle.area_states.specs.declared.place.Place.{Place}
use Rattle.area_states.specs.Places.{IsPlace}
use Rattle.seq_dependents.specs.Slots.{HoldsCapacity, part_of}
use Rattle.root_anchor.specs.Chains.{anchor_count}
use Rattle.area_runs.specs.Bank.{IsBankArea}

-- an area of two anchors
pub record IsLonePlace (place : Place) : Type 0 where
  pub is_place : IsPlace place
  pub area : IsBankArea place
  pub size : 512 ≡ place.shape.ci
  pub types : AreTypes 512 place.segments
  pub anchors : anchor_count place.shape ≡ 2
  pub slots : HoldsCapacity (part_of place.shape place.capacity 8)
