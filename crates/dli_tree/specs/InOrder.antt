-- Segment types as definitions have them, and roots in order: keys ascend, of roots and of twins, and serials fall.
use Rattle.std.specs.Prelude.{ℕ, ◌^◌, ◌≤◌, List, length, map, Bool, ◌&&◌}
use Rattle.std.specs.List.{list_all}
use Rattle.fp_model.specs.declared.definitions.SegDef.{SegDef}
use Rattle.fp_model.specs.declared.database.AreaEnds.{AreaEnds}
use Rattle.fp_model.specs.declared.database.Root.{Root}
use Rattle.fp_model.specs.Order.{root_key}
use Rattle.fp_model.specs.Shape.{is_root}
use Rattle.fp_model.specs.State.{ascend}
use Rattle.fp_model.specs.WellFormed.{HavePlaces}

-- The types of a data entry database: at least one and few, and each below the root has an earlier parent.
pub record AreTypes (types : List SegDef) : Type 0 where
  pub some : 1 ≤ length types
  pub few : length types ≤ 15
  pub places : HavePlaces 0 types

-- ends between which every serial stands
abbrev pub any_ends : AreaEnds
any_ends = record { begin = 0; end = 2 ^ 64 }

-- each root in shape with all below it, keys ascending
abbrev pub are_in_order : List SegDef → List Root → Bool
are_in_order types roots = list_all (is_root types any_ends) roots && ascend (map (root_key types) roots)
