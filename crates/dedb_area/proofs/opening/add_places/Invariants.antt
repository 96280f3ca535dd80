use Rattle.std.proofs.Common.{◌≡◌, ◌+◌, ◌++◌, length, drop, take, sum_by}
use Rattle.std.specs.Prelude.{map}
use Rattle.std.specs.List.{AllByRecursion}
use Rattle.fp_model.specs.State.{anchors_in, areas_from}
use Rattle.fp_model.specs.WellFormed.{IsAreaDef}
use Rattle.area_states.specs.Places.{place_of, ArePlaces}
use Rattle.dedb_area.proofs.opening.add_places.Given as goal

abbrev pub invariant-loop-area : goal.invariant-loop-area
invariant-loop-area l = record {
  added : l.places.items
      ++ map (place_of l.def) (areas_from l.dedb l.number l.first_anchor (drop l.area-index l.def.areas))
      ≡ l.initial.places.items ++ map (place_of l.def) (areas_from l.dedb 0 0 l.def.areas);
  number : l.number ≡ l.area-index;
  anchors : l.first_anchor ≡ sum_by anchors_in (take l.area-index l.def.areas);
  count : length l.places.items ≡ length l.initial.places.items + l.area-index;
  left : AllByRecursion (IsAreaDef l.def.segments) (drop l.area-index l.def.areas);
  are : ArePlaces l.initial.places.items → ArePlaces l.places.items;
}
