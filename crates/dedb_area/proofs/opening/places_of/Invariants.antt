use Rattle.std.proofs.Common.{◌≡◌, ◌*◌, ◌≤◌, ◌++◌, length, drop}
use Rattle.std.specs.List.{AllByRecursion}
use Rattle.fp_model.specs.WellFormed.{IsDedbDef}
use Rattle.area_states.specs.Places.{places_from, places_of, ArePlaces}
use Rattle.dedb_area.proofs.opening.places_of.Given as goal

abbrev pub invariant-loop-def : goal.invariant-loop-def
invariant-loop-def l = record {
  added : l.places.items ++ places_from l.dedb (drop l.def-index l.defs.dedbs) ≡ places_of l.defs;
  dedb : l.dedb ≡ l.def-index;
  count : length l.places.items ≤ 16 * l.def-index;
  left : AllByRecursion IsDedbDef (drop l.def-index l.defs.dedbs);
  are : ArePlaces l.places.items;
}
