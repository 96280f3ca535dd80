-- Where areas and roots stand.
use Rattle.std.specs.Prelude.{◌≡◌, ℕ, ◌≤◌, List, length, sum_by, Option, Some, None, slice_get, slice_set}
use Rattle.fp_model.specs.State.{Area, anchors_in, change_key}
use Rattle.fp_model.specs.declared.definitions.AreaDef.{AreaDef}
use Rattle.past_anchors.specs.declared.area.AreaPlace.{AreaPlace}

-- an area as the definitions have it
abbrev pub area_of : AreaPlace → Area
area_of place =
    record { dedb = place.dedb; number = place.number; first_anchor = place.first_anchor; def = place.def.now }

-- as many areas and anchors as a database has
pub record AreFew (areas : List AreaDef) : Type 0 where
  pub count : length areas ≤ 16
  pub anchors : sum_by anchors_in areas ≤ 65536

-- the change of a key is one of the element at this place, or of none
abbrev pub IsChangedAt : {X : Type 0} → (X → List ℕ) → List ℕ → (X → X) → List X → Option ℕ → Type 0
IsChangedAt {X} key k change xs (Some at) = (x : X) → slice_get xs at ≡ Some x
    → slice_set xs at (change x) ≡ change_key key k change xs
IsChangedAt key k change xs None = xs ≡ change_key key k change xs
